-- What follows from a decision that has its cause and was said.
use Rattle.std.proofs.Common.{◌≡◌, ◌<◌, ◌⊎◌, inl, inr, ℕ, List, [], ◌++◌, length, Option, Some, None, Result, Ok, Err, refl, sym, ap, ◌∙◌, subst, arith, length-append}
use Rattle.std.proofs.lemmas.List.{append-nil}
use Rattle.cx_base.specs.Refusal.{Refusal, Refused, Passed}
use Rattle.cx_base.specs.declared.fault.Fault.{Fault}
use Rattle.cx_base.specs.declared.limit.Limit.{Limit}
use Rattle.cx_base.specs.declared.limit.Limit.TheVariants as limit
use Rattle.cx_base.specs.declared.place.Place.{Place}
use Rattle.cx_io.specs.Count.{Rose}
use Rattle.cx_io.specs.Sink.{Appends}
use Rattle.cx_plain.specs.PlainTree.{PlainTree}
use Rattle.cx_plain.specs.PlainText.{plain_text}
use Rattle.conceptc.specs.declared.command.Command.{Command}
use Rattle.conceptc.specs.declared.command.Command.TheVariants.{Translate}
use Rattle.conceptc.specs.declared.decision.Decision.{Decision}
use Rattle.conceptc.specs.declared.decision.Decision.TheVariants as decision
use Rattle.conceptc.specs.declared.status.Status.{Status}
use Rattle.conceptc.specs.declared.status.Status.TheVariants as status
use Rattle.conceptc.specs.Answers.{IsLimit, IsWriteFault, IsUnlessFaulty, IsComplete}
use Rattle.conceptc.specs.Decision.{IsTooDeepText, IsCause, IsCauseOf, IsWholeCause, IsTooMuch, IsJudged, Says, status_of, out_text, diag_text, witness_text}
use Rattle.conceptc.specs.Reading.{ReadsWhole, ReadsTooMuch}
use Rattle.conceptc.specs.Report.{limit_report}
use Rattle.conceptc.specs.Verdict.{source_limit, no_place, judged, verdict}
use Rattle.conceptc.proofs.StageLemmas.{within, beyond}

-- ---- sinks and sources

pub nothing_put : (old new : Option (List ℕ)) → Appends old new [] → new ≡ old
nothing_put None new h = h
nothing_put (Some written) new h = h ∙ ap Some (append-nil written)

whole_is : (rest0 rest1 : Option (List ℕ)) (b bytes : List ℕ) → rest0 ≡ Some bytes → ReadsWhole rest0 rest1 b → b ≡ bytes
whole_is rest0 None b bytes told h =
    let apart : Some bytes ≡ None = sym told ∙ h.0 in
    absurd cc
whole_is rest0 (Some left) b bytes told h =
    let all : Some bytes ≡ Some (b ++ left) = sym told ∙ h.0 in
    let same : bytes ≡ b ++ left = cc in
    sym (append-nil b) ∙ ap (λ (l : List ℕ). b ++ l) (sym h.1) ∙ sym same

too_much_is : (rest0 rest1 : Option (List ℕ)) (bytes : List ℕ) → rest0 ≡ Some bytes → ReadsTooMuch rest0 rest1 → source_limit < length bytes
too_much_is rest0 None bytes told h =
    let apart : Some bytes ≡ None = sym told ∙ h.1 in
    absurd cc
too_much_is rest0 (Some left) bytes told h =
    let all : Some bytes ≡ Some (h.0 ++ left) = sym told ∙ h.1 in
    let same : bytes ≡ h.0 ++ left = cc in
    omega (arith, h.2, ap length same, length-append h.0 left)

-- ---- what the verdict is where this was decided

abbrev pub Decides : Decision → Result PlainTree Refusal → Type 0
Decides decision.NoCommand meant = ⊥
Decides (decision.Translated text) meant = (plain : PlainTree) × (meant ≡ Ok plain) × (text ≡ plain_text plain)
Decides (decision.Refused fault) meant = meant ≡ Err (Refused fault)
Decides (decision.Passed l at) meant = meant ≡ Err (Passed l at)
Decides decision.Unread meant = Unit {0}
Decides decision.OutOfMemory meant = Unit {0}

judged_is : (d : Decision) (bytes : List ℕ) → IsJudged d bytes → Decides d (verdict bytes)
judged_is decision.NoCommand bytes h = h
judged_is (decision.Translated text) bytes h = (h.1, h.4, h.6)
judged_is (decision.Refused fault) bytes h = h
judged_is (decision.Passed l at) bytes h = h
judged_is decision.Unread bytes h = tt
judged_is decision.OutOfMemory bytes h = tt

both : (d : Decision) (rest0 rest1 : Option (List ℕ)) (bytes : List ℕ) → rest0 ≡ Some bytes → IsWholeCause d rest0 rest1 ⊎ IsTooMuch d rest0 rest1 → Decides d (verdict bytes)
both d rest0 rest1 bytes told (inl h) = subst (λ (b : List ℕ). Decides d (verdict b)) (whole_is rest0 rest1 h.0 bytes told h.1) (judged_is d h.0 h.2)
both d rest0 rest1 bytes told (inr h) = subst (λ (e : Decision). Decides e (verdict bytes)) (sym h.0) (beyond bytes (too_much_is rest0 rest1 bytes told h.1))

decides : (d : Decision) (rest0 rest1 : Option (List ℕ)) (i0 i1 : ℕ) (bytes : List ℕ) → rest0 ≡ Some bytes → IsCauseOf d rest0 rest1 i0 i1 → Decides d (verdict bytes)
decides decision.NoCommand rest0 rest1 i0 i1 bytes told h = h
decides (decision.Translated text) rest0 rest1 i0 i1 bytes told h = both (decision.Translated text) rest0 rest1 bytes told h
decides (decision.Refused fault) rest0 rest1 i0 i1 bytes told h = both (decision.Refused fault) rest0 rest1 bytes told h
decides (decision.Passed l at) rest0 rest1 i0 i1 bytes told h = both (decision.Passed l at) rest0 rest1 bytes told h
decides decision.Unread rest0 rest1 i0 i1 bytes told h = tt
decides decision.OutOfMemory rest0 rest1 i0 i1 bytes told h = tt

-- ---- the answers

not_write_fault : (d : Decision) → status_of d ≡ status.WriteFault → ⊥
not_write_fault decision.NoCommand e = cc
not_write_fault (decision.Translated text) e = cc
not_write_fault (decision.Refused fault) e = cc
not_write_fault (decision.Passed l at) e = cc
not_write_fault decision.Unread e = cc
not_write_fault decision.OutOfMemory e = cc

module _ (d : Decision) (st : Status) (rest0 rest1 : Option (List ℕ)) (i0 i1 : ℕ) (out0 out1 : Option (List ℕ)) (o0 o1 : ℕ) (diag0 diag1 : Option (List ℕ)) (d0 d1 : ℕ) where
  pub is_write_fault : (command : Option Command) → IsCause d command rest0 rest1 i0 i1 → Says d st out0 out1 o0 o1 diag0 diag1 d0 d1 → st ≡ status.WriteFault
      → IsWriteFault command rest0 rest1 i0 i1 out0 out1 o0 o1 diag0 diag1 d0 d1
  is_write_fault command cause (inl h) e = absurd (not_write_fault d (sym h.0 ∙ e))
  is_write_fault command cause (inr h) e = (h.1, d, cause, h.2, h.3)

-- what limits the stages pass
abbrev pub PassDepth : Type 0
PassDepth = (bytes : List ℕ) (l : Limit) (at : Place) → judged bytes ≡ Err (Passed l at) → (l ≡ limit.Depth) × IsTooDeepText bytes at

-- a limit that was said is that on the bytes, or that on the depth
limit_cause : (l : Limit) (at : Place) (rest0 rest1 out0 out1 diag0 diag1 : Option (List ℕ)) → PassDepth → IsWholeCause (decision.Passed l at) rest0 rest1 ⊎ IsTooMuch (decision.Passed l at) rest0 rest1
    → out1 ≡ out0 → Appends diag0 diag1 (limit_report l at) → IsLimit (Some Translate) rest0 rest1 out0 out1 diag0 diag1
limit_cause l at rest0 rest1 out0 out1 diag0 diag1 limits (inl h) put said =
    let d = limits h.0 l at (sym (within h.0 h.1.2) ∙ h.2) in (
      refl,
      put,
      inr (
        h.0,
        at,
        h.1,
        d.1,
        subst (λ (z : Limit). verdict h.0 ≡ Err (Passed z at)) d.0 h.2,
        subst (λ (z : Limit). Appends diag0 diag1 (limit_report z at)) d.0 said,
      ),
    )
limit_cause l at rest0 rest1 out0 out1 diag0 diag1 limits (inr h) put said =
    let is_source : l ≡ limit.Source = cc (h.0) in
    let is_nowhere : at ≡ no_place = cc (h.0) in
    let report : limit_report l at ≡ limit_report limit.Source no_place = rw (is_source, is_nowhere) refl in
    (refl, put, inl (h.1, subst (λ (t : List ℕ). Appends diag0 diag1 t) report said))

said_limit : (d : Decision) (rest0 rest1 : Option (List ℕ)) (i0 i1 : ℕ) (out0 out1 diag0 diag1 : Option (List ℕ)) → PassDepth
    → IsCauseOf d rest0 rest1 i0 i1 → status_of d ≡ status.Limit → Appends out0 out1 (out_text d) → Appends diag0 diag1 (diag_text d) → IsLimit (Some Translate) rest0 rest1 out0 out1 diag0 diag1
said_limit decision.NoCommand rest0 rest1 i0 i1 out0 out1 diag0 diag1 limits cause e put said = absurd cc
said_limit (decision.Translated text) rest0 rest1 i0 i1 out0 out1 diag0 diag1 limits cause e put said = absurd cc
said_limit (decision.Refused fault) rest0 rest1 i0 i1 out0 out1 diag0 diag1 limits cause e put said = absurd cc
said_limit (decision.Passed l at) rest0 rest1 i0 i1 out0 out1 diag0 diag1 limits cause e put said = limit_cause l at rest0 rest1 out0 out1 diag0 diag1 limits cause (nothing_put out0 out1 put) said
said_limit decision.Unread rest0 rest1 i0 i1 out0 out1 diag0 diag1 limits cause e put said = absurd cc
said_limit decision.OutOfMemory rest0 rest1 i0 i1 out0 out1 diag0 diag1 limits cause e put said = absurd cc

pub is_limit : (d : Decision) (st : Status) (command : Option Command) (rest0 rest1 : Option (List ℕ)) (i0 i1 : ℕ) (out0 out1 : Option (List ℕ)) (o0 o1 : ℕ) (diag0 diag1 : Option (List ℕ)) (d0 d1 : ℕ)
    → PassDepth → IsCause d command rest0 rest1 i0 i1 → Says d st out0 out1 o0 o1 diag0 diag1 d0 d1 → st ≡ status.Limit
    → IsLimit command rest0 rest1 out0 out1 diag0 diag1
is_limit d st None rest0 rest1 i0 i1 out0 out1 o0 o1 diag0 diag1 d0 d1 limits cause (inl h) e =
    let usage : status_of d ≡ status.Usage = ap status_of cause.0 in
    absurd cc
is_limit d st (Some Translate) rest0 rest1 i0 i1 out0 out1 o0 o1 diag0 diag1 d0 d1 limits cause (inl h) e = said_limit d rest0 rest1 i0 i1 out0 out1 diag0 diag1 limits cause (sym h.0 ∙ e) h.1 h.2
is_limit d st command rest0 rest1 i0 i1 out0 out1 o0 o1 diag0 diag1 d0 d1 limits cause (inr h) e = absurd cc

-- ---- where each answer comes

under : (d : Decision) (command : Option Command) (rest0 rest1 : Option (List ℕ)) (i0 i1 : ℕ) → command ≡ Some Translate → IsCause d command rest0 rest1 i0 i1 → IsCauseOf d rest0 rest1 i0 i1
under d command rest0 rest1 i0 i1 e cause = subst (λ (c : Option Command). IsCause d c rest0 rest1 i0 i1) e cause

ill_formed_status : (d : Decision) (st : Status) (meant : Result PlainTree Refusal) (fault : Fault) → Decides d meant → meant ≡ Err (Refused fault) → st ≡ status_of d → IsUnlessFaulty status.IllFormed st
ill_formed_status decision.NoCommand st meant fault h e is = absurd h
ill_formed_status (decision.Translated text) st meant fault h e is =
    let apart : meant ≡ Ok h.0 = h.1 in
    absurd cc
ill_formed_status (decision.Refused f) st meant fault h e is = inl is
ill_formed_status (decision.Passed l at) st meant fault h e is = absurd cc
ill_formed_status decision.Unread st meant fault h e is = inr (inl is)
ill_formed_status decision.OutOfMemory st meant fault h e is = inr (inr (inr is))

done_status : (d : Decision) (st : Status) (meant : Result PlainTree Refusal) (plain : PlainTree) → Decides d meant → meant ≡ Ok plain → st ≡ status_of d → IsUnlessFaulty status.Done st
done_status decision.NoCommand st meant plain h e is = absurd h
done_status (decision.Translated text) st meant plain h e is = inl is
done_status (decision.Refused f) st meant plain h e is = absurd cc
done_status (decision.Passed l at) st meant plain h e is = absurd cc
done_status decision.Unread st meant plain h e is = inr (inl is)
done_status decision.OutOfMemory st meant plain h e is = inr (inr (inr is))

pub ill_formed_exactly : (d : Decision) (st : Status) (command : Option Command) (rest0 rest1 : Option (List ℕ)) (i0 i1 : ℕ) (out0 out1 : Option (List ℕ)) (o0 o1 : ℕ) (diag0 diag1 : Option (List ℕ)) (d0 d1 : ℕ)
    → IsCause d command rest0 rest1 i0 i1 → Says d st out0 out1 o0 o1 diag0 diag1 d0 d1 → command ≡ Some Translate → (bytes : List ℕ) (fault : Fault) → rest0 ≡ Some bytes → verdict bytes ≡ Err (Refused fault)
    → IsUnlessFaulty status.IllFormed st
ill_formed_exactly d st command rest0 rest1 i0 i1 out0 out1 o0 o1 diag0 diag1 d0 d1 cause (inl h) asked bytes fault told is =
    ill_formed_status d st (verdict bytes) fault (decides d rest0 rest1 i0 i1 bytes told (under d command rest0 rest1 i0 i1 asked cause)) is h.0
ill_formed_exactly d st command rest0 rest1 i0 i1 out0 out1 o0 o1 diag0 diag1 d0 d1 cause (inr h) asked bytes fault told is = inr (inr (inl h.0))

limit_status : (d : Decision) (st : Status) (meant : Result PlainTree Refusal) (l : Limit) (at : Place) → Decides d meant → meant ≡ Err (Passed l at) → st ≡ status_of d → IsUnlessFaulty status.Limit st
limit_status decision.NoCommand st meant l at h e is = absurd h
limit_status (decision.Translated text) st meant l at h e is =
    let apart : meant ≡ Ok h.0 = h.1 in
    absurd cc
limit_status (decision.Refused f) st meant l at h e is = absurd cc
limit_status (decision.Passed l' at') st meant l at h e is = inl is
limit_status decision.Unread st meant l at h e is = inr (inl is)
limit_status decision.OutOfMemory st meant l at h e is = inr (inr (inr is))

pub depth_exactly : (d : Decision) (st : Status) (command : Option Command) (rest0 rest1 : Option (List ℕ)) (i0 i1 : ℕ) (out0 out1 : Option (List ℕ)) (o0 o1 : ℕ) (diag0 diag1 : Option (List ℕ)) (d0 d1 : ℕ)
    → IsCause d command rest0 rest1 i0 i1 → Says d st out0 out1 o0 o1 diag0 diag1 d0 d1 → command ≡ Some Translate → (bytes : List ℕ) (at : Place) → rest0 ≡ Some bytes → verdict bytes ≡ Err (Passed limit.Depth at)
    → IsUnlessFaulty status.Limit st
depth_exactly d st command rest0 rest1 i0 i1 out0 out1 o0 o1 diag0 diag1 d0 d1 cause (inl h) asked bytes at told is =
    limit_status d st (verdict bytes) limit.Depth at (decides d rest0 rest1 i0 i1 bytes told (under d command rest0 rest1 i0 i1 asked cause)) is h.0
depth_exactly d st command rest0 rest1 i0 i1 out0 out1 o0 o1 diag0 diag1 d0 d1 cause (inr h) asked bytes at told is = inr (inr (inl h.0))

pub done_exactly : (d : Decision) (st : Status) (command : Option Command) (rest0 rest1 : Option (List ℕ)) (i0 i1 : ℕ) (out0 out1 : Option (List ℕ)) (o0 o1 : ℕ) (diag0 diag1 : Option (List ℕ)) (d0 d1 : ℕ)
    → IsCause d command rest0 rest1 i0 i1 → Says d st out0 out1 o0 o1 diag0 diag1 d0 d1 → command ≡ Some Translate → (bytes : List ℕ) (plain : PlainTree) → rest0 ≡ Some bytes → verdict bytes ≡ Ok plain
    → IsUnlessFaulty status.Done st
done_exactly d st command rest0 rest1 i0 i1 out0 out1 o0 o1 diag0 diag1 d0 d1 cause (inl h) asked bytes plain told is =
    done_status d st (verdict bytes) plain (decides d rest0 rest1 i0 i1 bytes told (under d command rest0 rest1 i0 i1 asked cause)) is h.0
done_exactly d st command rest0 rest1 i0 i1 out0 out1 o0 o1 diag0 diag1 d0 d1 cause (inr h) asked bytes plain told is = inr (inr (inl h.0))

-- with no count that rises
complete_status : (d : Decision) (st : Status) (meant : Result PlainTree Refusal) (plain : PlainTree) (rest0 rest1 out0 out1 : Option (List ℕ)) (i0 i1 : ℕ) → Decides d meant → meant ≡ Ok plain → st ≡ status_of d
    → Appends out0 out1 (out_text d) → (Rose i0 i1 → ⊥) → IsCauseOf d rest0 rest1 i0 i1 → IsComplete plain st out0 out1
complete_status decision.NoCommand st meant plain rest0 rest1 out0 out1 i0 i1 h e is put calm cause = absurd h
complete_status (decision.Translated text) st meant plain rest0 rest1 out0 out1 i0 i1 h e is put calm cause =
    let both : Ok h.0 ≡ Ok plain = sym h.1 ∙ e in
    let same : h.0 ≡ plain = cc in
    let says : text ≡ plain_text plain = h.2 ∙ ap plain_text same in
    inl (is, subst (λ (t : List ℕ). Appends out0 out1 (t ++ witness_text)) says put)
complete_status (decision.Refused f) st meant plain rest0 rest1 out0 out1 i0 i1 h e is put calm cause = absurd cc
complete_status (decision.Passed l at) st meant plain rest0 rest1 out0 out1 i0 i1 h e is put calm cause = absurd cc
complete_status decision.Unread st meant plain rest0 rest1 out0 out1 i0 i1 h e is put calm cause = absurd (calm cause)
complete_status decision.OutOfMemory st meant plain rest0 rest1 out0 out1 i0 i1 h e is put calm cause = inr is

pub complete : (d : Decision) (st : Status) (command : Option Command) (rest0 rest1 : Option (List ℕ)) (i0 i1 : ℕ) (out0 out1 : Option (List ℕ)) (o0 o1 : ℕ) (diag0 diag1 : Option (List ℕ)) (d0 d1 : ℕ)
    → IsCause d command rest0 rest1 i0 i1 → Says d st out0 out1 o0 o1 diag0 diag1 d0 d1 → command ≡ Some Translate → (bytes : List ℕ) (plain : PlainTree) → rest0 ≡ Some bytes → verdict bytes ≡ Ok plain
    → (Rose i0 i1 → ⊥) → (Rose o0 o1 → ⊥) → (Rose d0 d1 → ⊥) → IsComplete plain st out0 out1
complete d st command rest0 rest1 i0 i1 out0 out1 o0 o1 diag0 diag1 d0 d1 cause (inl h) asked bytes plain told is calm_in calm_out calm_diag =
    let reason = under d command rest0 rest1 i0 i1 asked cause in
    complete_status d st (verdict bytes) plain rest0 rest1 out0 out1 i0 i1 (decides d rest0 rest1 i0 i1 bytes told reason) is h.0 h.1 calm_in reason
complete d st command rest0 rest1 i0 i1 out0 out1 o0 o1 diag0 diag1 d0 d1 cause (inr h) asked bytes plain told is calm_in calm_out calm_diag =
    elim h.1 [ inl r ↦ absurd (calm_out r) | inr r ↦ absurd (calm_diag r) ]
