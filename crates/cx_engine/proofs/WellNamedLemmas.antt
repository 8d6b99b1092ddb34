-- The stage of names against the unit by the numbers of its functions.
use Rattle.std.proofs.Common.{◌≡◌, ℕ, zero, suc, ◌+◌, ◌<◌, Bool, true, false, cond, List, [], ◌∷◌, ◌++◌, length, Option, Some, None, Result, Ok, Err, ◌⊎◌, inl, inr, take, refl, ap, sym, ◌∙◌, subst, arith, append_assoc, append-nil, length-append}
use Rattle.std.specs.Prelude.{map, slice_get}
use Rattle.std.specs.List.{AllByRecursion}
use Rattle.std.specs.Str.{bytes_eq}
use Rattle.std.proofs.lemmas.Slice.Eq.{bytes_eq-Decides}
use Rattle.std.proofs.lemmas.List.{map_push}
use Rattle.std.proofs.lemmas.Option.{slice_get_within}
use Rattle.std.proofs.Math.Seq.{take-append_seam}
use Rattle.cx_base.specs.Refusal.{Refusal, Refused, Passed, ◌>>=◌}
use Rattle.cx_base.specs.declared.fault.Fault.{Fault}
use Rattle.cx_base.specs.declared.kind.Kind.TheVariants as kind
use Rattle.cx_engine.specs.Definitions.{Definition}
use Rattle.cx_engine.specs.Forms.{Mention}
use Rattle.cx_engine.specs.Names.{Declared, declared, declaration_of, redeclared, is_new, is_known, calls_in, names_called, names_function, names_functions, names_unit}
use Rattle.cx_engine.specs.WellNamed.{IsAmongFirst, IsWellNamed, Redeclares, CallsUnknown}

-- ---- elements of a list by their numbers

kept : {X : Type 0} (xs ys : List X) (i : ℕ) (y : X) → slice_get xs i ≡ Some y → slice_get (xs ++ ys) i ≡ Some y
kept [] ys i y e = absurd cc
kept (x ∷ xs) ys zero y e = e
kept (x ∷ xs) ys (suc i) y e = kept xs ys i y e

next : {X : Type 0} (xs : List X) (x : X) (ys : List X) → slice_get (xs ++ x ∷ ys) (length xs) ≡ Some x
next [] x ys = refl
next (z ∷ zs) x ys = next zs x ys

-- an element up to the seam stands before it or is the one behind it
up_to : {X : Type 0} (xs : List X) (x : X) (ys : List X) (i : ℕ) (y : X) → i < length xs + 1 → slice_get (xs ++ x ∷ ys) i ≡ Some y → (slice_get xs i ≡ Some y) ⊎ ((i ≡ length xs) × (x ≡ y))
up_to [] x ys zero y below e =
    let is : x ≡ y = cc in
    inr (refl, is)
up_to [] x ys (suc i) y below e = absurd (omega (arith, below))
up_to (z ∷ zs) x ys zero y below e = inl e
up_to (z ∷ zs) x ys (suc i) y below e = elim (up_to zs x ys i y (omega (arith, below)) e) [ inl h ↦ inl h | inr h ↦ inr (ap suc h.0, h.1) ]

-- ---- the declaration of a name

record Finds (fs : List Definition) (q : List ℕ) (d : Declared) : Type 0 where
  number : ℕ
  function : Definition
  there : slice_get fs number ≡ Some function
  named : function.name ≡ q
  place : function.at ≡ d.at

finds_step : (b : Bool) (q : List ℕ) (f : Definition) (fs : List Definition) (o : Option Declared) (d : Declared) → (b ≡ true → q ≡ f.name) → ((e : Declared) → o ≡ Some e → Finds fs q e)
    → cond b (Some (declared f)) o ≡ Some d → Finds (f ∷ fs) q d
finds_step true q f fs o d same h e =
    let is : declared f ≡ d = cc in
    record { number = 0; function = f; there = refl; named = sym (same refl); place = ap (λ (x : Declared). x.at) is }
finds_step false q f fs None d same h e = absurd cc
finds_step false q f fs (Some x) d same h e =
    let is : x ≡ d = cc in
    let found = h x refl in
    record { number = suc found.number; function = found.function; there = found.there; named = found.named; place = found.place ∙ ap (λ (x : Declared). x.at) is }

finds : (fs : List Definition) (q : List ℕ) (d : Declared) → declaration_of q (map declared fs) ≡ Some d → Finds fs q d
finds [] q d e = absurd cc
finds (f ∷ fs) q d e = finds_step (bytes_eq q f.name) q f fs (declaration_of q (map declared fs)) d (λ b. (bytes_eq-Decides q f.name).0 b) (λ x h. finds fs q x h) e

-- no function has the name
abbrev IsNew : List Definition → List ℕ → Type 0
IsNew fs q = (i : ℕ) (f : Definition) → slice_get fs i ≡ Some f → f.name ≡ q → ⊥

new_step : (b : Bool) (q : List ℕ) (g : Definition) (gs : List Definition) (o : Option Declared) → (q ≡ g.name → b ≡ true) → (o ≡ None → IsNew gs q) → cond b (Some (declared g)) o ≡ None → IsNew (g ∷ gs) q
new_step true q g gs o same h e i f there named = absurd cc
new_step false q g gs o same h e zero f there named =
    let is : g ≡ f = cc in
    let hit = same (sym (ap (λ (x : Definition). x.name) is ∙ named)) in
    absurd cc
new_step false q g gs o same h e (suc i) f there named = h e i f there named

is_new-None : (fs : List Definition) (q : List ℕ) → declaration_of q (map declared fs) ≡ None → IsNew fs q
is_new-None [] q e = λ i f there named. absurd cc
is_new-None (g ∷ gs) q e = new_step (bytes_eq q g.name) q g gs (declaration_of q (map declared gs)) (λ h. (bytes_eq-Decides q g.name).1 h) (λ h. is_new-None gs q h) e

-- ---- one more function

more : (n : ℕ) (pre gs : List Definition) (q : List ℕ) → IsAmongFirst n pre q → IsAmongFirst n (pre ++ gs) q
more n pre gs q h = record { number = h.number; function = h.function; within = h.within; there = kept pre gs h.number h.function h.there; named = h.named }

up_to_last : (pre : List Definition) (g : Definition) (i : ℕ) (f : Definition) → slice_get (pre ++ g ∷ []) i ≡ Some f → (slice_get pre i ≡ Some f) ⊎ ((i ≡ length pre) × (g ≡ f))
up_to_last pre g i f e = up_to pre g [] i f (omega (arith, slice_get_within (pre ++ g ∷ []) i f e, length-append pre (g ∷ []))) e

-- each of these calls names one of the first n functions
abbrev AllKnown : ℕ → List Definition → List Mention → Type 0
AllKnown n u cs = AllByRecursion (λ c. IsAmongFirst n u c.name) cs

abbrev CallsKnown : List Definition → Definition → Type 0
CallsKnown pre g = AllKnown (length pre + 1) (pre ++ g ∷ []) (calls_in g.value)

all_more : (n : ℕ) (pre gs : List Definition) (cs : List Mention) → AllKnown n pre cs → AllKnown n (pre ++ gs) cs
all_more n pre gs [] all = tt
all_more n pre gs (c ∷ cs) all = (more n pre gs c.name all.0, all_more n pre gs cs all.1)

-- one call more that is known
known_push : (n : ℕ) (u : List Definition) (cs : List Mention) (c : Mention) → AllKnown n u cs → IsAmongFirst n u c.name → AllKnown n u (cs ++ c ∷ [])
known_push n u [] c all known = (known, tt)
known_push n u (d ∷ ds) c all known = (all.0, known_push n u ds c all.1 known)

known_in : (n : ℕ) (u : List Definition) (cs : List Mention) (c : Mention) (ds : List Mention) → AllKnown n u (cs ++ c ∷ ds) → IsAmongFirst n u c.name
known_in n u [] c ds all = all.0
known_in n u (d ∷ cs) c ds all = known_in n u cs c ds all.1

once_more : (pre : List Definition) (g : Definition) → IsWellNamed pre → IsNew pre g.name
    → (i j : ℕ) (f h : Definition) → slice_get (pre ++ g ∷ []) i ≡ Some f → slice_get (pre ++ g ∷ []) j ≡ Some h → f.name ≡ h.name → i ≡ j
once_more pre g fine new i j f h at-i at-j same = by (up_to_last pre g i f at-i) (up_to_last pre g j h at-j)
  where
    by : ((slice_get pre i ≡ Some f) ⊎ ((i ≡ length pre) × (g ≡ f))) → ((slice_get pre j ≡ Some h) ⊎ ((j ≡ length pre) × (g ≡ h))) → i ≡ j
    by (inl x) (inl y) = fine.once i j f h x y same
    by (inl x) (inr y) = absurd (new i f x (same ∙ ap (λ (t : Definition). t.name) (sym y.1)))
    by (inr x) (inl y) = absurd (new j h y (sym same ∙ ap (λ (t : Definition). t.name) (sym x.1)))
    by (inr x) (inr y) = x.0 ∙ sym y.0

known_more : (pre : List Definition) (g : Definition) → IsWellNamed pre → CallsKnown pre g
    → (j : ℕ) (f : Definition) → slice_get (pre ++ g ∷ []) j ≡ Some f → AllKnown (j + 1) (pre ++ g ∷ []) (calls_in f.value)
known_more pre g fine known j f at-j = by (up_to_last pre g j f at-j)
  where
    by : ((slice_get pre j ≡ Some f) ⊎ ((j ≡ length pre) × (g ≡ f))) → AllKnown (j + 1) (pre ++ g ∷ []) (calls_in f.value)
    by (inl x) = all_more (j + 1) pre (g ∷ []) (calls_in f.value) (fine.known j f x)
    by (inr x) = subst (λ (k : ℕ). AllKnown (k + 1) (pre ++ g ∷ []) (calls_in f.value)) (sym x.0) (subst (λ (t : Definition). AllKnown (length pre + 1) (pre ++ g ∷ []) (calls_in t.value)) x.1 known)

one_more : (pre : List Definition) (g : Definition) → IsWellNamed pre → IsNew pre g.name → CallsKnown pre g → IsWellNamed (pre ++ g ∷ [])
one_more pre g fine new known = record { once = once_more pre g fine new; known = known_more pre g fine known }

nothing : IsWellNamed []
nothing = record { once = λ i j f g x y same. absurd cc; known = λ j f x. absurd cc }

-- ---- what the stage finds

-- the first fault of names
abbrev pub IsFault : List Definition → Fault → Type 0
IsFault u fault = ((i : ℕ) × (j : ℕ) × Redeclares u fault i j) ⊎ ((j : ℕ) × CallsUnknown u fault j)

abbrev pub IsJudged : List Definition → Result (Unit {0}) Refusal → Type 0
IsJudged u (Ok x) = IsWellNamed u
IsJudged u (Err (Refused fault)) = IsFault u fault
IsJudged u (Err (Passed limit at)) = ⊥

before_seam : (pre gs : List Definition) → IsWellNamed pre → IsWellNamed (take (length pre) (pre ++ gs))
before_seam pre gs fine = subst IsWellNamed (sym (take-append_seam pre gs)) fine

by_name : (pre : List Definition) (g : Definition) (gs : List Definition) (value rest : Result (Unit {0}) Refusal) (o : Option Declared) → IsWellNamed pre → declaration_of g.name (map declared pre) ≡ o
    → (o ≡ None → IsJudged (pre ++ g ∷ gs) (value >>= λ _. rest)) → IsJudged (pre ++ g ∷ gs) ((is_new g.at o >>= λ _. value) >>= λ _. rest)
unfolding is_new
by_name pre g gs value rest None fine e h = h refl
by_name pre g gs value rest (Some d) fine e h =
    let found = finds pre g.name d e in
    inl (
      found.number,
      length pre,
      record {
        earlier = found.function;
        later = g;
        before = before_seam pre (g ∷ gs) fine;
        order = slice_get_within pre found.number found.function found.there;
        declares = kept pre (g ∷ gs) found.number found.function found.there;
        declares_again = next pre g gs;
        same_name = found.named;
        says = ap (redeclared g.at) (sym found.place);
      },
    )

own_new : (pre : List Definition) (g : Definition) (gs : List Definition) → IsNew pre g.name → ¬ IsAmongFirst (length pre) (pre ++ g ∷ gs) g.name
own_new pre g gs new h = by (up_to pre g gs h.number h.function (omega (arith, h.within)) h.there)
  where
    by : ((slice_get pre h.number ≡ Some h.function) ⊎ ((h.number ≡ length pre) × (g ≡ h.function))) → ⊥
    by (inl x) = new h.number h.function x h.named
    by (inr x) = omega (arith, x.0, h.within)

still_unknown : (pre : List Definition) (g : Definition) (gs : List Definition) (q : List ℕ) → IsNew (pre ++ g ∷ []) q → ¬ IsAmongFirst (length pre + 1) (pre ++ g ∷ gs) q
still_unknown pre g gs q new h = by (up_to pre g gs h.number h.function h.within h.there)
  where
    by : ((slice_get pre h.number ≡ Some h.function) ⊎ ((h.number ≡ length pre) × (g ≡ h.function))) → ⊥
    by (inl x) = new h.number h.function (kept pre (g ∷ []) h.number h.function x) h.named
    by (inr x) = new (length pre) g (next pre g []) (ap (λ (t : Definition). t.name) x.1 ∙ h.named)

found_among : (pre : List Definition) (g : Definition) (q : List ℕ) (d : Declared) → declaration_of q (map declared (pre ++ g ∷ [])) ≡ Some d → IsAmongFirst (length pre + 1) (pre ++ g ∷ []) q
found_among pre g q d e =
    let found = finds (pre ++ g ∷ []) q d e in
    record {
      number = found.number;
      function = found.function;
      within = omega (arith, slice_get_within (pre ++ g ∷ []) found.number found.function found.there, length-append pre (g ∷ []));
      there = found.there;
      named = found.named;
    }

-- a call, behind others that are known
by_call : (pre : List Definition) (g : Definition) (gs : List Definition) (before : List Mention) (c : Mention) (after : List Mention) (others rest : Result (Unit {0}) Refusal) (o : Option Declared) → IsWellNamed pre → IsNew pre g.name
    → calls_in g.value ≡ before ++ c ∷ after → AllKnown (length pre + 1) (pre ++ g ∷ []) before → declaration_of c.name (map declared (pre ++ g ∷ [])) ≡ o
    → (IsAmongFirst (length pre + 1) (pre ++ g ∷ []) c.name → IsJudged (pre ++ g ∷ gs) (others >>= λ _. rest)) → IsJudged (pre ++ g ∷ gs) ((is_known c.at o >>= λ _. others) >>= λ _. rest)
unfolding is_known
by_call pre g gs before c after others rest None fine new calls known e h =
    let seam : (pre ++ g ∷ []) ++ gs ≡ pre ++ g ∷ gs = append_assoc pre (g ∷ []) gs in
    inr (
      length pre,
      record {
        caller = g;
        earlier = before;
        call = c;
        later = after;
        before = before_seam pre (g ∷ gs) fine;
        there = next pre g gs;
        new = own_new pre g gs new;
        calls = calls;
        known = subst (λ (u : List Definition). AllKnown (length pre + 1) u before) seam (all_more (length pre + 1) (pre ++ g ∷ []) gs before known);
        unknown = still_unknown pre g gs c.name (is_new-None (pre ++ g ∷ []) c.name e);
        says = refl;
      },
    )
by_call pre g gs before c after others rest (Some d) fine new calls known e h = h (found_among pre g c.name d e)

by_calls : (pre : List Definition) (g : Definition) (gs : List Definition) (rest : Result (Unit {0}) Refusal) → IsWellNamed pre → IsNew pre g.name → (IsWellNamed (pre ++ g ∷ []) → IsJudged (pre ++ g ∷ gs) rest)
    → (before cs : List Mention) → calls_in g.value ≡ before ++ cs → AllKnown (length pre + 1) (pre ++ g ∷ []) before → IsJudged (pre ++ g ∷ gs) (names_called (map declared (pre ++ g ∷ [])) cs >>= λ _. rest)
unfolding names_called
by_calls pre g gs rest fine new h before [] calls known =
    let all : calls_in g.value ≡ before = calls ∙ append-nil before in
    h (one_more pre g fine new (subst (AllKnown (length pre + 1) (pre ++ g ∷ [])) (sym all) known))
by_calls pre g gs rest fine new h before (c ∷ cs) calls known =
    by_call pre g gs before c cs (names_called (map declared (pre ++ g ∷ [])) cs) rest (declaration_of c.name (map declared (pre ++ g ∷ []))) fine new calls known refl
    (λ here. by_calls pre g gs rest fine new h (before ++ c ∷ []) cs (calls ∙ sym (append_assoc before (c ∷ []) cs)) (known_push (length pre + 1) (pre ++ g ∷ []) before c known here))

by_function : (pre : List Definition) (g : Definition) (gs : List Definition) → IsWellNamed pre
    → (IsWellNamed (pre ++ g ∷ []) → IsJudged ((pre ++ g ∷ []) ++ gs) (names_functions (map declared (pre ++ g ∷ [])) gs)) → IsJudged (pre ++ g ∷ gs) (names_functions (map declared pre) (g ∷ gs))
unfolding names_functions names_function
by_function pre g gs fine h =
    let names = map declared pre ++ declared g ∷ [] in
    let seam : (pre ++ g ∷ []) ++ gs ≡ pre ++ g ∷ gs = append_assoc pre (g ∷ []) gs in
    let last : map declared (pre ++ g ∷ []) ≡ map declared pre ++ declared g ∷ [] = map_push declared pre g in
    let later : IsWellNamed (pre ++ g ∷ []) → IsJudged (pre ++ g ∷ gs) (names_functions (map declared (pre ++ g ∷ [])) gs) = λ w. subst (λ (u : List Definition). IsJudged u (names_functions (map declared (pre ++ g ∷ [])) gs)) seam (h w) in
    by_name pre g gs (names_called names (calls_in g.value)) (names_functions names gs) (declaration_of g.name (map declared pre)) fine refl
    (λ new. subst (λ (all : List Declared). IsJudged (pre ++ g ∷ gs) (names_called all (calls_in g.value) >>= λ _. names_functions all gs)) last
    (by_calls pre g gs (names_functions (map declared (pre ++ g ∷ [])) gs) fine (is_new-None pre g.name new) later [] (calls_in g.value) refl tt))

judged : (pre gs : List Definition) → IsWellNamed pre → IsJudged (pre ++ gs) (names_functions (map declared pre) gs)
unfolding names_functions
judged pre [] fine = subst IsWellNamed (sym (append-nil pre)) fine
judged pre (g ∷ gs) fine = by_function pre g gs fine (λ w. judged (pre ++ g ∷ []) gs w)

pub judged_unit : (u : List Definition) → IsJudged u (names_unit u)
judged_unit u = judged [] u nothing

-- ---- the laws

judged_as : (u : List Definition) (r : Result (Unit {0}) Refusal) → names_unit u ≡ r → IsJudged u r
judged_as u r e = subst (IsJudged u) e (judged_unit u)

pub fine : (u : List Definition) → names_unit u ≡ Ok tt → IsWellNamed u
fine u e = judged_as u (Ok tt) e

-- a unit that is well named has no fault
no_redeclared : (u : List Definition) (fault : Fault) (i j : ℕ) → IsWellNamed u → Redeclares u fault i j → ⊥
no_redeclared u fault i j w d = omega (arith, d.order, w.once i j d.earlier d.later d.declares d.declares_again d.same_name)

no_unknown : (u : List Definition) (fault : Fault) (j : ℕ) → IsWellNamed u → CallsUnknown u fault j → ⊥
no_unknown u fault j w d = d.unknown (known_in (j + 1) u d.earlier d.call d.later (subst (AllKnown (j + 1) u) d.calls (w.known j d.caller d.there)))

only_by : (u : List Definition) (r : Result (Unit {0}) Refusal) → IsWellNamed u → IsJudged u r → r ≡ Ok tt
only_by u (Ok x) w h = refl
only_by u (Err (Refused fault)) w h = elim h [ inl d ↦ absurd (no_redeclared u fault d.0 d.1 w d.2) | inr d ↦ absurd (no_unknown u fault d.0 w d.1) ]
only_by u (Err (Passed limit at)) w h = absurd h

pub only : (u : List Definition) → IsWellNamed u → names_unit u ≡ Ok tt
only u w = only_by u (names_unit u) w (judged_unit u)

abbrev IsOfKind : Fault → Type 0
IsOfKind f = (f.kind ≡ kind.Redeclared) ⊎ (f.kind ≡ kind.UnknownName)

kind_by : (u : List Definition) (fault : Fault) → IsFault u fault → IsOfKind fault
kind_by u fault (inl d) = inl (ap (λ (f : Fault). f.kind) d.2.says)
kind_by u fault (inr d) = inr (ap (λ (f : Fault). f.kind) d.1.says)

kinds_by : (u : List Definition) (r : Refusal) → IsJudged u (Err r) → (f : Fault) × (r ≡ Refused f) × IsOfKind f
kinds_by u (Refused fault) h = (fault, refl, kind_by u fault h)
kinds_by u (Passed limit at) h = absurd h

pub kinds : (u : List Definition) (r : Refusal) → names_unit u ≡ Err r → (f : Fault) × (r ≡ Refused f) × ((f.kind ≡ kind.Redeclared) ⊎ (f.kind ≡ kind.UnknownName))
kinds u r e = kinds_by u r (judged_as u (Err r) e)

pub redeclared_law : (u : List Definition) (f : Fault) → names_unit u ≡ Err (Refused f) → f.kind ≡ kind.Redeclared → (i : ℕ) × (j : ℕ) × Redeclares u f i j
redeclared_law u f e is = by (judged_as u (Err (Refused f)) e)
  where
    by : IsFault u f → (i : ℕ) × (j : ℕ) × Redeclares u f i j
    by (inl d) = d
    by (inr d) =
        let other = ap (λ (f : Fault). f.kind) d.1.says in
        absurd cc

pub unknown_law : (u : List Definition) (f : Fault) → names_unit u ≡ Err (Refused f) → f.kind ≡ kind.UnknownName → (j : ℕ) × CallsUnknown u f j
unknown_law u f e is = by (judged_as u (Err (Refused f)) e)
  where
    by : IsFault u f → (j : ℕ) × CallsUnknown u f j
    by (inl d) =
        let other = ap (λ (f : Fault). f.kind) d.2.says in
        absurd cc
    by (inr d) = d
