-- No open leaf: the sequent holds. An open leaf: its left atoms separate the two sides.
use Rattle.std.proofs.Common.{◌≡◌, ℕ, zero, suc, ◌<◌, Bool, true, false, ◌&&◌, ◌||◌, not, cond, List, [], ◌∷◌, Option, Some, None, refl, sym, ap, subst, ◌∙◌, ◌⊎◌, inl, inr, true≢false, arith}
use Rattle.std.specs.List.{list_any, list_all}
use Rattle.std.specs.Option.{option_or}
use Rattle.cx_prop.specs.Formula.{Formula, Atom, And, Or, IsEquality, same_formula}
use Rattle.cx_prop.specs.Truth.{Valuation, truth, among}
use Rattle.cx_prop.specs.Table.{atoms_of}
use Rattle.cx_numbered.proofs.Numbered.{either, or_cases, or_left, or_right}
use Rattle.cx_prop.proofs.Lemmas.{and_both}
use Rattle.cx_prop.proofs.Lemmas.{same_formula-Decides}
use Rattle.cx_derive.specs.declared.rule.SequentRule.TheVariants as rule
use Rattle.cx_derive.specs.Answers.{AreAtoms}
use Rattle.cx_derive.specs.Lists.{is_among}
use Rattle.cx_derive.specs.Sequents.{Sequent, Leftmost, Atoms, Conjunction, Disjunction, behind, leftmost, shares_formula, premises}
use Rattle.cx_derive.specs.Search.{Choice, or_else, chosen, premises_of, depth, first_some, open_leaf}
use Rattle.cx_derive.proofs.RulesKeep.{holds, all_hold, premises_hold}
use Rattle.cx_derive.proofs.Choosing.{fit_left, fit_right}
use Rattle.cx_derive.proofs.Depths.{Fits, Lighter, chosen_fits, chosen_lighter, NoRule, ByRule, case_of, leaf_by_rule, leaf_by_none}

module _ {A : Type 0} (same : A → A → Bool) (decides : IsEquality same) where
  pub right_premises : (s : Sequent A) (c : Choice A) → chosen same s ≡ Some c → premises same c.0 s ≡ Some c.1
  right_premises s c e = subst (Fits same s) e (chosen_fits same s)

  pub lighter_premises : (s : Sequent A) (c : Choice A) → chosen same s ≡ Some c → Lighter same (depth s) c.1
  lighter_premises s c e = subst (λ (o : Option (Choice A)). Lighter same (depth s) (premises_of o)) e (chosen_lighter same s)

  pub first_none : (o p : Option (Sequent A)) → option_or o p ≡ None → (o ≡ None) × (p ≡ None)
  first_none None p e = (refl, e)
  first_none (Some s) p e = absurd cc

  module _ (v : Valuation A) where
    all_closed : (n : ℕ) → ((t : Sequent A) → depth t < n → open_leaf same t ≡ None → holds v t ≡ true) → (ss : List (Sequent A)) → Lighter same n ss → first_some (open_leaf same) ss ≡ None → all_hold v ss ≡ true
    all_closed n h [] l e = refl
    all_closed n h (s ∷ ss) l e =
        let both = first_none (open_leaf same s) (first_some (open_leaf same) ss) e in
        and_both (holds v s) (all_hold v ss) (h s l.0 both.0) (all_closed n h ss l.1 both.1)

    closed_below : (n : ℕ) (s : Sequent A) → depth s < n → open_leaf same s ≡ None → holds v s ≡ true
    closed_below zero s lt e = absurd (omega arith)
    closed_below (suc n) s lt e =
        elim (case_of same s) [
          | NoRule k ↦ absurd (none_some (sym e ∙ leaf_by_none same s k))
          | ByRule c k ↦
              sym (premises_hold same decides v c.0 s c.1 (right_premises s c k))
              ∙ all_closed (depth s) (λ t l h. closed_below n t (omega arith) h) c.1 (lighter_premises s c k) (sym (leaf_by_rule same s c k) ∙ e)
        ]
      where
        none_some : {t : (Sequent A)} → None ≡ Some t → ⊥
        none_some e = cc

    pub closed_holds : (s : Sequent A) → open_leaf same s ≡ None → holds v s ≡ true
    closed_holds s e = closed_below (suc (depth s)) s (omega arith) e

  -- ---- an open leaf

  none_parts : (b : Bool) (l r : Leftmost A) (left right : List (Formula A)) → or_else (cond b (Some []) None) rule.Id (fit_left same right l (fit_right same left r)) ≡ None → (b ≡ false) × (l ≡ Atoms) × (r ≡ Atoms)
  none_parts true l r left right e = absurd cc
  none_parts false Atoms Atoms left right e = (refl, refl, refl)
  none_parts false Atoms (Conjunction b p q a) left right e = absurd cc
  none_parts false Atoms (Disjunction b p q a) left right e = absurd cc
  none_parts false (Conjunction b p q a) r left right e = absurd cc
  none_parts false (Disjunction b p q a) r left right e = absurd cc

  parts_of : (s : Sequent A) → chosen same s ≡ None → (shares_formula same s ≡ false) × (leftmost s.left ≡ Atoms) × (leftmost s.right ≡ Atoms)
  unfolding chosen
  parts_of s e = none_parts (shares_formula same s) (leftmost s.left) (leftmost s.right) s.left s.right e

  atoms_behind : (p : Formula A) (l : Leftmost A) → behind p l ≡ Atoms → l ≡ Atoms
  atoms_behind p Atoms e = refl
  atoms_behind p (Conjunction b q r a) e = absurd cc
  atoms_behind p (Disjunction b q r a) e = absurd cc

  left_true : (v : Valuation A) (ps : List (Formula A)) → leftmost ps ≡ Atoms → ((a : A) → among same (atoms_of ps) a ≡ true → v a ≡ true) → list_all (truth v) ps ≡ true
  left_true v [] e h = refl
  left_true v (Atom a ∷ ps) e h =
      and_both (v a) (list_all (truth v) ps) (h a (or_left (same a a) (among same (atoms_of ps) a) ((decides a a).1 refl)))
      (left_true v ps (atoms_behind (Atom a) (leftmost ps) e) (λ b k. h b (or_right (same b a) (among same (atoms_of ps) b) k)))
  left_true v (And p q ∷ ps) e h = absurd cc
  left_true v (Or p q ∷ ps) e h = absurd cc

  right_atom : (v : Valuation A) (ps : List (Formula A)) → leftmost ps ≡ Atoms → list_any (truth v) ps ≡ true → (a : A) × (v a ≡ true) × (is_among (same_formula same) ps (Atom a) ≡ true)
  right_atom v [] e h = absurd (true≢false (sym h))
  right_atom v (Atom a ∷ ps) e h =
      elim (or_cases (v a) (list_any (truth v) ps) h) [
        | inl here ↦ (a, here, or_left (same_formula same (Atom a) (Atom a)) (is_among (same_formula same) ps (Atom a)) ((same_formula-Decides same decides (Atom a) (Atom a)).1 refl))
        | inr later ↦ let r = right_atom v ps (atoms_behind (Atom a) (leftmost ps) e) later in (r.0, r.1, or_right (same_formula same (Atom r.0) (Atom a)) (is_among (same_formula same) ps (Atom r.0)) r.2)
      ]
  right_atom v (And p q ∷ ps) e h = absurd cc
  right_atom v (Or p q ∷ ps) e h = absurd cc

  both_sides : (left right : List (Formula A)) (a : A) → among same (atoms_of left) a ≡ true → is_among (same_formula same) right (Atom a) ≡ true → list_any (is_among (same_formula same) right) left ≡ true
  both_sides [] right a h k = absurd (true≢false (sym h))
  both_sides (Atom b ∷ left) right a h k =
      elim (or_cases (same a b) (among same (atoms_of left) a) h) [
        | inl equal ↦ or_left (is_among (same_formula same) right (Atom b)) (list_any (is_among (same_formula same) right) left) (subst (λ (x : A). is_among (same_formula same) right (Atom x) ≡ true) ((decides a b).0 equal) k)
        | inr later ↦ or_right (is_among (same_formula same) right (Atom b)) (list_any (is_among (same_formula same) right) left) (both_sides left right a later k)
      ]
  both_sides (And p q ∷ left) right a h k = or_right (is_among (same_formula same) right (And p q)) (list_any (is_among (same_formula same) right) left) (both_sides left right a h k)
  both_sides (Or p q ∷ left) right a h k = or_right (is_among (same_formula same) right (Or p q)) (list_any (is_among (same_formula same) right) left) (both_sides left right a h k)

  leaf_fails : (s : Sequent A) → chosen same s ≡ None → holds (among same (atoms_of s.left)) s ≡ false
  leaf_fails s e =
      let v = among same (atoms_of s.left) in
      let parts = parts_of s e in
      elim (either (list_any (truth v) s.right)) [
        | inl some ↦
            let r = right_atom v s.right parts.2 some in
            absurd (true≢false (sym (both_sides s.left s.right r.0 r.1 r.2) ∙ parts.0))
        | inr none ↦ λ i. not (left_true v s.left parts.1 (λ a h. h) i) || none i
      ]

  first_open : (o p : Option (Sequent A)) (l : Sequent A) → option_or o p ≡ Some l → (o ≡ Some l) ⊎ (p ≡ Some l)
  first_open None p l e = inr e
  first_open (Some s) p l e = inl e

  and_false : (a b : Bool) → b ≡ false → (a && b) ≡ false
  and_false true b h = h
  and_false false b h = refl

  false_and : (a b : Bool) → a ≡ false → (a && b) ≡ false
  false_and true b h = absurd (true≢false h)
  false_and false b h = refl

  module _ (l : Sequent A) where
    abbrev w : Valuation A
    w = among same (atoms_of l.left)

    some_open : (n : ℕ) → ((t : Sequent A) → depth t < n → open_leaf same t ≡ Some l → holds w t ≡ false) → (ss : List (Sequent A)) → Lighter same n ss → first_some (open_leaf same) ss ≡ Some l → all_hold w ss ≡ false
    some_open n h [] lighter e = absurd cc
    some_open n h (s ∷ ss) lighter e =
        elim (first_open (open_leaf same s) (first_some (open_leaf same) ss) l e) [
          | inl here ↦ false_and (holds w s) (all_hold w ss) (h s lighter.0 here)
          | inr later ↦ and_false (holds w s) (all_hold w ss) (some_open n h ss lighter.1 later)
        ]

    some_same : (s : Sequent A) → Some s ≡ Some l → s ≡ l
    some_same s e = cc

    open_below : (n : ℕ) (s : Sequent A) → depth s < n → open_leaf same s ≡ Some l → holds w s ≡ false
    open_below zero s lt e = absurd (omega arith)
    open_below (suc n) s lt e =
        elim (case_of same s) [
          | NoRule k ↦
              let equal : s ≡ l = some_same s (sym (leaf_by_none same s k) ∙ e) in
              ap (λ (t : Sequent A). holds (among same (atoms_of t.left)) s) (sym equal) ∙ leaf_fails s k
          | ByRule c k ↦
              sym (premises_hold same decides w c.0 s c.1 (right_premises s c k))
              ∙ some_open (depth s) (λ t less h. open_below n t (omega arith) h) c.1 (lighter_premises s c k) (sym (leaf_by_rule same s c k) ∙ e)
        ]

    pub open_fails : (s : Sequent A) → open_leaf same s ≡ Some l → holds (among same (atoms_of l.left)) s ≡ false
    open_fails s e = open_below (suc (depth s)) s (omega arith) e

    first_unfit : (n : ℕ) → ((t : Sequent A) → depth t < n → open_leaf same t ≡ Some l → chosen same l ≡ None) → (ss : List (Sequent A)) → Lighter same n ss → first_some (open_leaf same) ss ≡ Some l → chosen same l ≡ None
    first_unfit n h [] lighter e = absurd cc
    first_unfit n h (s ∷ ss) lighter e =
        elim (first_open (open_leaf same s) (first_some (open_leaf same) ss) l e) [
          | inl here ↦ h s lighter.0 here
          | inr later ↦ first_unfit n h ss lighter.1 later
        ]

    unfit_below : (n : ℕ) (s : Sequent A) → depth s < n → open_leaf same s ≡ Some l → chosen same l ≡ None
    unfit_below zero s lt e = absurd (omega arith)
    unfit_below (suc n) s lt e =
        elim (case_of same s) [
          | NoRule k ↦ ap (chosen same) (sym (some_same s (sym (leaf_by_none same s k) ∙ e))) ∙ k
          | ByRule c k ↦ first_unfit (depth s) (λ t less h. unfit_below n t (omega arith) h) c.1 (lighter_premises s c k) (sym (leaf_by_rule same s c k) ∙ e)
        ]

  all_atoms : (ps : List (Formula A)) → leftmost ps ≡ Atoms → AreAtoms ps
  all_atoms [] e i p at = absurd cc
  all_atoms (Atom a ∷ ps) e zero p at = (a, cc)
  all_atoms (Atom a ∷ ps) e (suc i) p at = all_atoms ps (atoms_behind (Atom a) (leftmost ps) e) i p at
  all_atoms (And p q ∷ ps) e i r at = absurd cc
  all_atoms (Or p q ∷ ps) e i r at = absurd cc

  -- the left side of an open leaf has atoms alone
  pub leaf_atoms : (s l : Sequent A) → open_leaf same s ≡ Some l → AreAtoms l.left
  leaf_atoms s l e = all_atoms l.left (parts_of l (unfit_below l (suc (depth s)) s (omega arith) e)).1
