-- The canonical derivation is right, and ends with its sequent.
use Rattle.std.proofs.Common.{◌≡◌, ℕ, zero, suc, ◌+◌, ◌<◌, ◌≤◌, Bool, true, false, ◌||◌, not, cond, List, [], ◌∷◌, ◌++◌, map, take, length, Option, Some, None, refl, sym, ap, subst, ◌∙◌, ◌⊎◌, inl, inr, true≢false, arith}
use Rattle.std.specs.Prelude.{slice_get}
use Rattle.std.specs.List.{flat_map}
use Rattle.std.proofs.lemmas.List.{map-append, take_all}
use Rattle.cx_prop.specs.Formula.{Formula, IsEquality}
use Rattle.cx_numbered.proofs.Numbered.{either, or_cases, get_push_cases, get_below}
use Rattle.cx_derive.specs.Lists.{is_among, with_new, with_all, without_repeats}
use Rattle.cx_derive.specs.Sequents.{Sequent, same_sequent}
use Rattle.cx_derive.specs.Derivations.{Inference, conclusions, IsRightStep, IsRight, EndsWith, against}
use Rattle.cx_derive.specs.Search.{Choice, chosen, premises_of, depth, first_some, sequents_below, open_leaf, number_among, inference_by, inference_in, inferences, canonical}
use Rattle.cx_derive.proofs.Walks.{with_all-append, with_all-one, with_all-none}
use Rattle.cx_derive.proofs.Depths.{Lighter, sequents_below-step, NoRule, ByRule, case_of, leaf_by_rule, leaf_by_none, below_by_rule}
use Rattle.cx_derive.proofs.Distinct.{Among, same_sequent-Decides, among_append_left, among_append_right, among_append_cases, among_one, among_one_is, among_new_cases, among_all_right, new_there, new_absent}
use Rattle.cx_derive.proofs.Leaves.{right_premises, lighter_premises, first_none}

module _ {A : Type 0} (same : A → A → Bool) (decides : IsEquality same) where
  abbrev AllAmong : List (Sequent A) → List (Sequent A) → Type 0
  AllAmong ss [] = Unit {0}
  AllAmong ss (p ∷ ps) = Among same ss p × AllAmong ss ps

  -- each sequent has its premises before it
  abbrev Ordered : List (Sequent A) → Type 0
  Ordered done = (k : ℕ) (s : Sequent A) → slice_get done k ≡ Some s → (c : Choice A) × (chosen same s ≡ Some c) × AllAmong (take k done) c.1

  take_front : (ss ts : List (Sequent A)) (k : ℕ) → k ≤ length ss → take k (ss ++ ts) ≡ take k ss
  take_front [] ts zero h = refl
  take_front [] ts (suc k) h = absurd (omega arith)
  take_front (s ∷ ss) ts zero h = refl
  take_front (s ∷ ss) ts (suc k) h = ap (λ (us : List (Sequent A)). s ∷ us) (take_front ss ts k (omega arith))

  Ordered-push : (mid : List (Sequent A)) (s : Sequent A) (c : Choice A) → Ordered mid → chosen same s ≡ Some c → AllAmong mid c.1 → Ordered (mid ++ s ∷ [])
  Ordered-push mid s c ordered e all k t h =
      elim (get_push_cases mid s k t h) [
        | inl old ↦
            let r = ordered k t old in
            (r.0, r.1, subst (λ (ss : List (Sequent A)). AllAmong ss r.0.1) (sym (take_front mid (s ∷ []) k (omega (arith, get_below mid k t old)))) r.2)
        | inr new ↦ (
          c,
          ap (chosen same) new.1 ∙ e,
          subst (λ (j : ℕ). AllAmong (take j (mid ++ s ∷ [])) c.1) (sym new.0) (subst (λ (ss : List (Sequent A)). AllAmong ss c.1) (sym (take_front mid (s ∷ []) (length mid) (omega arith) ∙ take_all (length mid) mid (omega arith))) all),
        )
      ]

  Ordered-new : (mid : List (Sequent A)) (s : Sequent A) (c : Choice A) → Ordered mid → chosen same s ≡ Some c → AllAmong mid c.1 → Ordered (with_new (same_sequent same) mid s)
  Ordered-new mid s c ordered e all =
      elim (either (is_among (same_sequent same) mid s)) [
        | inl there ↦ subst Ordered (sym (new_there same decides mid s there)) ordered
        | inr absent ↦ subst Ordered (sym (new_absent same decides mid s absent)) (Ordered-push mid s c ordered e all)
      ]

  pub among_below : (s : Sequent A) → Among same (sequents_below same s) s
  among_below s = subst (λ (ss : List (Sequent A)). Among same ss s) (sym (sequents_below-step same s)) (among_append_right same decides (flat_map (sequents_below same) (premises_of (chosen same s))) (s ∷ []) s (among_one same decides s))

  each_within : (ps : List (Sequent A)) (p : Sequent A) → Among same ps p → Among same (flat_map (sequents_below same) ps) p
  each_within [] p h = absurd (true≢false (sym h))
  each_within (q ∷ ps) p h =
      elim (or_cases (same_sequent same p q) (is_among (same_sequent same) ps p) h) [
        | inl here ↦ among_append_left same decides (sequents_below same q) (flat_map (sequents_below same) ps) p (subst (λ (t : Sequent A). Among same (sequents_below same q) t) (sym ((same_sequent-Decides same decides p q).0 here)) (among_below q))
        | inr later ↦ among_append_right same decides (sequents_below same q) (flat_map (sequents_below same) ps) p (each_within ps p later)
      ]

  all_among_from : (ss ps : List (Sequent A)) → ((p : Sequent A) → Among same ps p → Among same ss p) → AllAmong ss ps
  all_among_from ss [] h = tt
  all_among_from ss (p ∷ ps) h = (h p (or_l (same_sequent same p p) (is_among (same_sequent same) ps p) ((same_sequent-Decides same decides p p).1 refl)), all_among_from ss ps (λ q k. h q (or_r (same_sequent same q p) (is_among (same_sequent same) ps q) k)))
    where
      or_l : (a b : Bool) → a ≡ true → (a || b) ≡ true
      or_l true b e = refl
      or_l false b e = absurd (true≢false (sym e))

      or_r : (a b : Bool) → b ≡ true → (a || b) ≡ true
      or_r true b e = refl
      or_r false b e = e

  Ordered-each : (n : ℕ) → ((t : Sequent A) → depth t < n → open_leaf same t ≡ None → (done : List (Sequent A)) → Ordered done → Ordered (with_all (same_sequent same) done (sequents_below same t)))
      → (ps : List (Sequent A)) → Lighter same n ps → first_some (open_leaf same) ps ≡ None → (done : List (Sequent A)) → Ordered done → Ordered (with_all (same_sequent same) done (flat_map (sequents_below same) ps))
  Ordered-each n h [] l e done ordered = subst Ordered (sym (with_all-none (same_sequent same) done)) ordered
  Ordered-each n h (p ∷ ps) l e done ordered =
      let both = first_none same decides (open_leaf same p) (first_some (open_leaf same) ps) e in
      subst Ordered (sym (with_all-append (same_sequent same) done (sequents_below same p) (flat_map (sequents_below same) ps)))
      (Ordered-each n h ps l.1 both.1 (with_all (same_sequent same) done (sequents_below same p)) (h p l.0 both.0 done ordered))

  none_some : {t : (Sequent A)} → None ≡ Some t → ⊥
  none_some e = cc

  Ordered-below : (n : ℕ) (s : Sequent A) → depth s < n → open_leaf same s ≡ None → (done : List (Sequent A)) → Ordered done → Ordered (with_all (same_sequent same) done (sequents_below same s))
  Ordered-below zero s lt e done ordered = absurd (omega arith)
  Ordered-below (suc n) s lt e done ordered =
      elim (case_of same s) [
        | NoRule k ↦ absurd (none_some (sym e ∙ leaf_by_none same s k))
        | ByRule c k ↦
            let flat = flat_map (sequents_below same) c.1 in
            let mid = with_all (same_sequent same) done flat in
            let is : with_all (same_sequent same) done (sequents_below same s) ≡ with_new (same_sequent same) mid s =
            ap (with_all (same_sequent same) done) (below_by_rule same s c k) ∙ with_all-append (same_sequent same) done flat (s ∷ []) ∙ with_all-one (same_sequent same) mid s in
            let before = Ordered-each (depth s) (λ t less h d o. Ordered-below n t (omega arith) h d o) c.1 (lighter_premises same decides s c k) (sym (leaf_by_rule same s c k) ∙ e) done ordered in
            subst Ordered (sym is) (Ordered-new mid s c before k (all_among_from mid c.1 (λ p h. among_all_right same decides done flat p (each_within c.1 p h))))
      ]

  Ordered-nothing : Ordered []
  Ordered-nothing k s h = absurd cc

  -- ---- the steps of ordered sequents are right

  concludes : (all : List (Sequent A)) (s : Sequent A) (o : Option (Choice A)) → (inference_by same all s o).conclusion ≡ s
  concludes all s None = refl
  concludes all s (Some c) = refl

  conclusions_are : (all ss : List (Sequent A)) (k : ℕ) → conclusions (take k (map (inference_in same all) ss)) ≡ take k ss
  conclusions_are all [] zero = refl
  conclusions_are all [] (suc k) = refl
  conclusions_are all (s ∷ ss) zero = refl
  conclusions_are all (s ∷ ss) (suc k) = λ i. concludes all s (chosen same s) i ∷ conclusions_are all ss k i

  number_at : (ss : List (Sequent A)) (k : ℕ) (p : Sequent A) → Among same (take k ss) p → slice_get (take k ss) (number_among same ss p) ≡ Some p
  number_at [] zero p h = absurd (true≢false (sym h))
  number_at [] (suc k) p h = absurd (true≢false (sym h))
  number_at (s ∷ ss) zero p h = absurd (true≢false (sym h))
  number_at (s ∷ ss) (suc k) p h =
      elim (either (same_sequent same p s)) [
        | inl here ↦ ap (λ (b : Bool). slice_get (s ∷ take k ss) (cond (not b) (1 + (number_among same) ss p) 0)) here ∙ ap Some (sym ((same_sequent-Decides same decides p s).0 here))
        | inr other ↦
            ap (λ (b : Bool). slice_get (s ∷ take k ss) (cond (not b) (1 + (number_among same) ss p) 0)) other
            ∙ ap (slice_get (s ∷ take k ss)) (one_more (number_among same ss p))
            ∙ number_at ss k p (sym (ap (λ (b : Bool). b || is_among (same_sequent same) (take k ss) p) other) ∙ h)
      ]
    where
      one_more : (n : ℕ) → 1 + n ≡ suc n
      one_more n = omega arith

  numbers_at : (ss : List (Sequent A)) (k : ℕ) (ps : List (Sequent A)) → AllAmong (take k ss) ps → map (slice_get (take k ss)) (map (number_among same ss) ps) ≡ map Some ps
  numbers_at ss k [] h = refl
  numbers_at ss k (p ∷ ps) h = λ i. number_at ss k p h.0 i ∷ numbers_at ss k ps h.1 i

  step_of : (all ss : List (Sequent A)) (k : ℕ) (i : Inference A) → slice_get (map (inference_in same all) ss) k ≡ Some i → (s : Sequent A) × (slice_get ss k ≡ Some s) × (inference_in same all s ≡ i)
  step_of all [] k i h = absurd cc
  step_of all (s ∷ ss) zero i h = (s, refl, cc)
  step_of all (s ∷ ss) (suc k) i h = step_of all ss k i h

  right_step : (all : List (Sequent A)) (k : ℕ) (s : Sequent A) (c : Choice A) → chosen same s ≡ Some c → AllAmong (take k all) c.1 → IsRightStep same (take k (inferences same all)) (inference_in same all s)
  right_step all k s c e inside =
      subst (λ (o : Option (Choice A)). IsRightStep same (take k (inferences same all)) (inference_by same all s o)) (sym e)
      (c.1, right_premises same decides s c e, ap (λ (ss : List (Sequent A)). map (slice_get ss) (map (number_among same all) c.1)) (conclusions_are all all k) ∙ numbers_at all k c.1 inside)

  right_steps : (all : List (Sequent A)) → Ordered all → IsRight same (inferences same all)
  right_steps all ordered k i h =
      let at = step_of all all k i h in
      let o = ordered k at.0 at.1 in
      subst (IsRightStep same (take k (inferences same all))) at.2 (right_step all k at.0 o.0 o.1 o.2)

  pub canonical_right : (p q : Formula A) → open_leaf same (against p q) ≡ None → IsRight same (canonical same p q)
  canonical_right p q e =
      right_steps (without_repeats (same_sequent same) (sequents_below same (against p q))) (Ordered-below (suc (depth (against p q))) (against p q) (omega arith) e [] Ordered-nothing)

  -- ---- the last step

  among_all_cases : (ss ts : List (Sequent A)) (u : Sequent A) → Among same (with_all (same_sequent same) ss ts) u → Among same ss u ⊎ (Among same) ts u
  unfolding with_all
  among_all_cases ss [] u h = inl h
  among_all_cases ss (t ∷ ts) u h =
      elim (among_all_cases (with_new (same_sequent same) ss t) ts u h) [
        | inl new ↦ elim (among_new_cases same decides ss t u new) [ inl old ↦ inl old | inr equal ↦ inr (or_l (same_sequent same u t) (is_among (same_sequent same) ts u) ((same_sequent-Decides same decides u t).1 equal)) ]
        | inr later ↦ inr (or_r (same_sequent same u t) (is_among (same_sequent same) ts u) later)
      ]
    where
      or_l : (a b : Bool) → a ≡ true → (a || b) ≡ true
      or_l true b e = refl
      or_l false b e = absurd (true≢false (sym e))

      or_r : (a b : Bool) → b ≡ true → (a || b) ≡ true
      or_r true b e = refl
      or_r false b e = e

  flat_smaller : (n : ℕ) → ((s t : Sequent A) → depth s < n → Among same (sequents_below same s) t → depth t ≤ depth s) → (ps : List (Sequent A)) (t : Sequent A) → Lighter same n ps → Among same (flat_map (sequents_below same) ps) t → depth t < n
  flat_smaller n h [] t l e = absurd (true≢false (sym e))
  flat_smaller n h (p ∷ ps) t l e =
      elim (among_append_cases same decides (sequents_below same p) (flat_map (sequents_below same) ps) t e) [
        | inl here ↦ omega (arith, h p t l.0 here, l.0)
        | inr later ↦ flat_smaller n h ps t l.1 later
      ]

  below_smaller : (n : ℕ) (s t : Sequent A) → depth s < n → Among same (sequents_below same s) t → depth t ≤ depth s
  below_smaller zero s t lt h = absurd (omega arith)
  below_smaller (suc n) s t lt h =
      elim (case_of same s) [
        | NoRule k ↦
            let only : (sequents_below same) s ≡ s ∷ [] = sequents_below-step same s ∙ ap (λ (o : Option (Choice A)). flat_map (sequents_below same) (premises_of o) ++ s ∷ []) k in
            let equal : t ≡ s = among_one_is same decides s t (subst (λ (ss : List (Sequent A)). Among same ss t) only h) in
            subst (λ (u : Sequent A). depth u ≤ depth s) (sym equal) (omega arith)
        | ByRule c k ↦
            elim (among_append_cases same decides (flat_map (sequents_below same) c.1) (s ∷ []) t (subst (λ (ss : List (Sequent A)). Among same ss t) (below_by_rule same s c k) h)) [
              | inl before ↦ le_of_lt (depth t) (depth s) (flat_smaller (depth s) (λ r u less a. below_smaller n r u (omega arith) a) c.1 t (lighter_premises same decides s c k) before)
              | inr last ↦ subst (λ (u : Sequent A). depth u ≤ depth s) (sym (among_one_is same decides s t last)) (omega arith)
            ]
      ]
    where
      le_of_lt : (a b : ℕ) → a < b → a ≤ b
      le_of_lt a b h = omega arith

  ends : (s : Sequent A) (c : Choice A) → chosen same s ≡ Some c → EndsWith (inferences same (without_repeats (same_sequent same) (sequents_below same s))) s
  ends s c e =
      let flat = flat_map (sequents_below same) c.1 in
      let mid = with_all (same_sequent same) [] flat in
      let absent : is_among (same_sequent same) mid s ≡ false =
      elim (either (is_among (same_sequent same) mid s)) [
        | inl there ↦ elim (among_all_cases [] flat s there) [
          | inl none ↦ absurd (true≢false (sym none))
          | inr inside ↦ absurd (not_below (depth s) (flat_smaller (depth s) (λ r u less a. below_smaller (suc (depth r)) r u (omega arith) a) c.1 s (lighter_premises same decides s c e) inside))
        ]
        | inr missing ↦ missing
      ] in
      let all = without_repeats (same_sequent same) (sequents_below same s) in
      let is : all ≡ mid ++ s ∷ [] = ap (with_all (same_sequent same) []) (below_by_rule same s c e) ∙ with_all-append (same_sequent same) [] flat (s ∷ []) ∙ with_all-one (same_sequent same) mid s ∙ new_absent same decides mid s absent in
      (map (inference_in same all) mid, inference_in same all s, ap (map (inference_in same all)) is ∙ map-append (inference_in same all) mid (s ∷ []), concludes all s (chosen same s))
    where
      not_below : (n : ℕ) → n < n → ⊥
      not_below n h = omega arith

  pub canonical_ends : (p q : Formula A) → open_leaf same (against p q) ≡ None → EndsWith (canonical same p q) (against p q)
  canonical_ends p q e =
      elim (case_of same (against p q)) [
        | NoRule k ↦ absurd (none_some (sym e ∙ leaf_by_none same (against p q) k))
        | ByRule c k ↦ ends (against p q) c k
      ]
