-- The search: how deep it goes, and what it finds, step by step.
use Rattle.std.proofs.Common.{◌≡◌, ℕ, zero, suc, ◌+◌, ◌<◌, ◌≤◌, Bool, true, false, cond, List, [], ◌∷◌, ◌++◌, Option, Some, None, refl, sym, ap, subst, ◌∙◌, inl, inr, arith}
use Rattle.std.specs.List.{flat_map}
use Rattle.std.specs.Option.{option_or}
use Rattle.cx_prop.specs.Formula.{Formula, Atom, And, Or, same_formula}
use Rattle.cx_numbered.proofs.Numbered.{either}
use Rattle.cx_derive.specs.declared.rule.SequentRule.{SequentRule}
use Rattle.cx_derive.specs.declared.rule.SequentRule.TheVariants as rule
use Rattle.cx_derive.specs.Lists.{is_among, with_new, with_all}
use Rattle.cx_derive.specs.Sequents.{Sequent, Leftmost, Atoms, Conjunction, Disjunction, behind, leftmost, in_place, shares_formula, and_left, or_left, or_right, and_right, premises}
use Rattle.cx_derive.specs.Search.{Choice, or_else, first_fit, chosen, premises_of, connectives, connectives_in, depth, sequents_to, first_some, open_at, leaf_to, sequents_below, open_leaf}

-- ---- a rule takes a connective away

-- ---- the cases of what the search takes

pub data Case {A : Type 0} (same : A → A → Bool) (s : Sequent A) : Type 0 where
  NoRule : (chosen same) s ≡ None → Case same s
  ByRule : (c : Choice A) → chosen same s ≡ Some c → Case same s

module _ {A : Type 0} (same : A → A → Bool) where
  connectives_in-append : (ps qs : List (Formula A)) → connectives_in (ps ++ qs) ≡ connectives_in ps + connectives_in qs
  connectives_in-append [] qs = omega arith
  connectives_in-append (p ∷ ps) qs = omega (arith, connectives_in-append ps qs)

  connectives_in-new : (ps : List (Formula A)) (p : Formula A) → connectives_in (with_new (same_formula same) ps p) ≤ connectives_in ps + connectives p
  connectives_in-new ps p =
      elim (either (is_among (same_formula same) ps p)) [
        | inl there ↦ subst (λ (qs : List (Formula A)). connectives_in qs ≤ connectives_in ps + connectives p) (ap (λ (b : Bool). cond b ps (ps ++ p ∷ [])) (sym there)) (omega arith)
        | inr absent ↦ subst (λ (qs : List (Formula A)). connectives_in qs ≤ connectives_in ps + connectives p) (ap (λ (b : Bool). cond b ps (ps ++ p ∷ [])) (sym absent)) (omega (arith, connectives_in-append ps (p ∷ [])))
      ]

  connectives_in-all : (ps qs : List (Formula A)) → connectives_in (with_all (same_formula same) ps qs) ≤ connectives_in ps + connectives_in qs
  unfolding with_all
  connectives_in-all ps [] = omega arith
  connectives_in-all ps (q ∷ qs) = omega (arith, connectives_in-all (with_new (same_formula same) ps q) qs, connectives_in-new ps q)

  in_place_at_most : (before parts after : List (Formula A)) → connectives_in (in_place same before parts after) ≤ connectives_in before + (connectives_in parts + connectives_in after)
  in_place_at_most before parts after =
      omega (arith, connectives_in-all [] (before ++ parts ++ after), connectives_in-append (before ++ parts) after, connectives_in-append before parts)

  abbrev connectives_of : Leftmost A → ℕ → ℕ
  connectives_of Atoms n = n
  connectives_of (Conjunction before p q after) n = connectives_in before + (1 + (connectives p + connectives q) + connectives_in after)
  connectives_of (Disjunction before p q after) n = connectives_in before + (1 + (connectives p + connectives q) + connectives_in after)

  connectives_behind : (a : A) (l : Leftmost A) (n : ℕ) → connectives_of (behind (Atom a) l) n ≡ connectives_of l n
  connectives_behind a Atoms n = refl
  connectives_behind a (Conjunction before p q after) n = omega arith
  connectives_behind a (Disjunction before p q after) n = omega arith

  connectives_leftmost : (ps : List (Formula A)) → connectives_of (leftmost ps) (connectives_in ps) ≡ connectives_in ps
  connectives_leftmost [] = refl
  connectives_leftmost (Atom a ∷ ps) = connectives_behind a (leftmost ps) (0 + connectives_in ps) ∙ ap (connectives_of (leftmost ps)) (zero_plus (connectives_in ps)) ∙ connectives_leftmost ps ∙ sym (zero_plus (connectives_in ps))
    where
      zero_plus : (n : ℕ) → 0 + n ≡ n
      zero_plus n = omega arith
  connectives_leftmost (And p q ∷ ps) = omega arith
  connectives_leftmost (Or p q ∷ ps) = omega arith

  -- each sequent of a list is of less depth
  abbrev pub Lighter : ℕ → List (Sequent A) → Type 0
  Lighter n [] = Unit {0}
  Lighter n (s ∷ ss) = (depth s < n) × Lighter n ss

  abbrev LighterIf : ℕ → Option (List (Sequent A)) → Type 0
  LighterIf n None = Unit {0}
  LighterIf n (Some ss) = Lighter n ss

  lighter_and_left : (l : Leftmost A) (left right : List (Formula A)) → connectives_of l (connectives_in left) ≡ connectives_in left → LighterIf (connectives_in left + connectives_in right) (and_left same right l)
  lighter_and_left Atoms left right h = tt
  lighter_and_left (Conjunction before p q after) left right h = (omega (arith, h, in_place_at_most before (p ∷ q ∷ []) after), tt)
  lighter_and_left (Disjunction before p q after) left right h = tt

  lighter_or_left : (l : Leftmost A) (left right : List (Formula A)) → connectives_of l (connectives_in left) ≡ connectives_in left → LighterIf (connectives_in left + connectives_in right) (or_left same right l)
  lighter_or_left Atoms left right h = tt
  lighter_or_left (Conjunction before p q after) left right h = tt
  lighter_or_left (Disjunction before p q after) left right h =
      (omega (arith, h, in_place_at_most before (p ∷ []) after), (omega (arith, h, in_place_at_most before (q ∷ []) after), tt))

  lighter_or_right : (l : Leftmost A) (left right : List (Formula A)) → connectives_of l (connectives_in right) ≡ connectives_in right → LighterIf (connectives_in left + connectives_in right) (or_right same left l)
  lighter_or_right Atoms left right h = tt
  lighter_or_right (Conjunction before p q after) left right h = tt
  lighter_or_right (Disjunction before p q after) left right h = (omega (arith, h, in_place_at_most before (p ∷ q ∷ []) after), tt)

  lighter_and_right : (l : Leftmost A) (left right : List (Formula A)) → connectives_of l (connectives_in right) ≡ connectives_in right → LighterIf (connectives_in left + connectives_in right) (and_right same left l)
  lighter_and_right Atoms left right h = tt
  lighter_and_right (Conjunction before p q after) left right h =
      (omega (arith, h, in_place_at_most before (p ∷ []) after), (omega (arith, h, in_place_at_most before (q ∷ []) after), tt))
  lighter_and_right (Disjunction before p q after) left right h = tt

  premises_lighter : (r : SequentRule) (s : Sequent A) → LighterIf (depth s) (premises same r s)
  premises_lighter rule.Id s = by (shares_formula same s)
    where
      by : (b : Bool) → LighterIf (depth s) (cond b (Some []) None)
      by true = tt
      by false = tt
  premises_lighter rule.AndL s = lighter_and_left (leftmost s.left) s.left s.right (connectives_leftmost s.left)
  premises_lighter rule.OrL s = lighter_or_left (leftmost s.left) s.left s.right (connectives_leftmost s.left)
  premises_lighter rule.OrR s = lighter_or_right (leftmost s.right) s.left s.right (connectives_leftmost s.right)
  premises_lighter rule.AndR s = lighter_and_right (leftmost s.right) s.left s.right (connectives_leftmost s.right)

  -- what the search chooses is right by its rule
  abbrev pub Fits : Sequent A → Option (Choice A) → Type 0
  Fits s None = Unit {0}
  Fits s (Some c) = premises same c.0 s ≡ Some c.1

  fits_or : (s : Sequent A) (o : Option (List (Sequent A))) (r : SequentRule) (later : Option (Choice A)) → premises same r s ≡ o → Fits s later → Fits s (or_else o r later)
  fits_or s None r later e h = h
  fits_or s (Some ps) r later e h = e

  fits_first : (rs : List SequentRule) (s : Sequent A) → Fits s (first_fit same rs s)
  fits_first [] s = tt
  fits_first (r ∷ rs) s = fits_or s (premises same r s) r (first_fit same rs s) refl (fits_first rs s)

  pub chosen_fits : (s : Sequent A) → Fits s (chosen same s)
  unfolding chosen
  chosen_fits s = fits_first (rule.Id ∷ rule.AndL ∷ rule.OrL ∷ rule.OrR ∷ rule.AndR ∷ []) s

  lighter_choice : (s : Sequent A) (o : Option (Choice A)) → Fits s o → Lighter (depth s) (premises_of o)
  lighter_choice s None h = tt
  lighter_choice s (Some c) h = subst (LighterIf (depth s)) h (premises_lighter c.0 s)

  pub chosen_lighter : (s : Sequent A) → Lighter (depth s) (premises_of (chosen same s))
  chosen_lighter s = lighter_choice s (chosen same s) (chosen_fits s)

  -- ---- the bound on the depth does not matter

  none_lighter : (ss : List (Sequent A)) → Lighter 0 ss → ss ≡ []
  none_lighter [] h = refl
  none_lighter (s ∷ ss) h = absurd (omega (arith, h.0))

  flat_map_same : (f g : Sequent A → List (Sequent A)) (n : ℕ) → ((s : Sequent A) → depth s < n → f s ≡ g s) → (ss : List (Sequent A)) → Lighter n ss → flat_map f ss ≡ flat_map g ss
  flat_map_same f g n h [] l = refl
  flat_map_same f g n h (s ∷ ss) l = λ i. h s l.0 i ++ flat_map_same f g n h ss l.1 i

  first_some_same : (f g : Sequent A → Option (Sequent A)) (n : ℕ) → ((s : Sequent A) → depth s < n → f s ≡ g s) → (ss : List (Sequent A)) → Lighter n ss → first_some f ss ≡ first_some g ss
  first_some_same f g n h [] l = refl
  first_some_same f g n h (s ∷ ss) l = λ i. option_or (h s l.0 i) (first_some_same f g n h ss l.1 i)

  sequents_same : (n m : ℕ) (s : Sequent A) → depth s ≤ n → depth s ≤ m → sequents_to same n s ≡ sequents_to same m s
  unfolding sequents_to
  sequents_same zero zero s h l = refl
  sequents_same zero (suc m) s h l =
      let none : premises_of (chosen same s) ≡ [] = none_lighter (premises_of (chosen same s)) (subst (λ (k : ℕ). Lighter k (premises_of (chosen same s))) (at_zero (depth s) h) (chosen_lighter s)) in
      ap (λ (ss : List (Sequent A)). flat_map (sequents_to same m) ss ++ s ∷ []) (sym none)
    where
      at_zero : (k : ℕ) → k ≤ 0 → k ≡ 0
      at_zero k h = omega arith
  sequents_same (suc n) zero s h l =
      let none : premises_of (chosen same s) ≡ [] = none_lighter (premises_of (chosen same s)) (subst (λ (k : ℕ). Lighter k (premises_of (chosen same s))) (at_zero (depth s) l) (chosen_lighter s)) in
      ap (λ (ss : List (Sequent A)). flat_map (sequents_to same n) ss ++ s ∷ []) none
    where
      at_zero : (k : ℕ) → k ≤ 0 → k ≡ 0
      at_zero k h = omega arith
  sequents_same (suc n) (suc m) s h l =
      ap (λ (ss : List (Sequent A)). ss ++ s ∷ [])
      (flat_map_same (sequents_to same n) (sequents_to same m) (depth s) (λ t lt. sequents_same n m t (omega arith) (omega arith)) (premises_of (chosen same s)) (chosen_lighter s))

  leaf_same : (n m : ℕ) (s : Sequent A) → depth s ≤ n → depth s ≤ m → leaf_to same n s ≡ leaf_to same m s
  unfolding leaf_to
  leaf_same zero zero s h l = refl
  leaf_same zero (suc m) s h l =
      let none : premises_of (chosen same s) ≡ [] = none_lighter (premises_of (chosen same s)) (subst (λ (k : ℕ). Lighter k (premises_of (chosen same s))) (at_zero (depth s) h) (chosen_lighter s)) in
      ap (λ (ss : List (Sequent A)). open_at s (chosen same s) (first_some (leaf_to same m) ss)) (sym none)
    where
      at_zero : (k : ℕ) → k ≤ 0 → k ≡ 0
      at_zero k h = omega arith
  leaf_same (suc n) zero s h l =
      let none : premises_of (chosen same s) ≡ [] = none_lighter (premises_of (chosen same s)) (subst (λ (k : ℕ). Lighter k (premises_of (chosen same s))) (at_zero (depth s) l) (chosen_lighter s)) in
      ap (λ (ss : List (Sequent A)). open_at s (chosen same s) (first_some (leaf_to same n) ss)) none
    where
      at_zero : (k : ℕ) → k ≤ 0 → k ≡ 0
      at_zero k h = omega arith
  leaf_same (suc n) (suc m) s h l =
      ap (open_at s (chosen same s))
      (first_some_same (leaf_to same n) (leaf_to same m) (depth s) (λ t lt. leaf_same n m t (omega arith) (omega arith)) (premises_of (chosen same s)) (chosen_lighter s))

  -- a bound of at least the depth is enough
  pub sequents_deep : (n : ℕ) (s : Sequent A) → depth s ≤ n → sequents_to same n s ≡ sequents_below same s
  sequents_deep n s h = sequents_same n (depth s) s h (omega arith)

  pub leaf_deep : (n : ℕ) (s : Sequent A) → depth s ≤ n → leaf_to same n s ≡ open_leaf same s
  leaf_deep n s h = leaf_same n (depth s) s h (omega arith)

  -- ---- a sequent's search, by those of its premises

  sequents_next : (n : ℕ) (s : Sequent A) → sequents_to same (suc n) s ≡ flat_map (sequents_to same n) (premises_of (chosen same s)) ++ s ∷ []
  unfolding sequents_to
  sequents_next n s = refl

  leaf_next : (n : ℕ) (s : Sequent A) → leaf_to same (suc n) s ≡ open_at s (chosen same s) (first_some (leaf_to same n) (premises_of (chosen same s)))
  unfolding leaf_to
  leaf_next n s = refl

  pub sequents_below-step : (s : Sequent A) → sequents_below same s ≡ flat_map (sequents_below same) (premises_of (chosen same s)) ++ s ∷ []
  sequents_below-step s =
      sequents_same (depth s) (suc (depth s)) s (omega arith) (omega arith) ∙ sequents_next (depth s) s
      ∙ ap (λ (ss : List (Sequent A)). ss ++ s ∷ []) (flat_map_same (sequents_to same (depth s)) (sequents_below same) (depth s) (λ t lt. sequents_same (depth s) (depth t) t (omega arith) (omega arith)) (premises_of (chosen same s)) (chosen_lighter s))

  pub open_leaf-step : (s : Sequent A) → open_leaf same s ≡ open_at s (chosen same s) (first_some (open_leaf same) (premises_of (chosen same s)))
  open_leaf-step s =
      leaf_same (depth s) (suc (depth s)) s (omega arith) (omega arith) ∙ leaf_next (depth s) s
      ∙ ap (open_at s (chosen same s)) (first_some_same (leaf_to same (depth s)) (open_leaf same) (depth s) (λ t lt. leaf_same (depth s) (depth t) t (omega arith) (omega arith)) (premises_of (chosen same s)) (chosen_lighter s))

  pub case_of : (s : Sequent A) → Case same s
  case_of s = by (chosen same s) refl
    where
      by : (o : Option (Choice A)) → chosen same s ≡ o → Case same s
      by None e = NoRule e
      by (Some c) e = ByRule c e

  pub leaf_by_rule : (s : Sequent A) (c : Choice A) → chosen same s ≡ Some c → open_leaf same s ≡ first_some (open_leaf same) c.1
  leaf_by_rule s c e = open_leaf-step s ∙ ap (λ (o : Option (Choice A)). open_at s o (first_some (open_leaf same) (premises_of o))) e

  pub leaf_by_none : (s : Sequent A) → chosen same s ≡ None → open_leaf same s ≡ Some s
  leaf_by_none s e = open_leaf-step s ∙ ap (λ (o : Option (Choice A)). open_at s o (first_some (open_leaf same) (premises_of o))) e

  pub below_by_rule : (s : Sequent A) (c : Choice A) → chosen same s ≡ Some c → sequents_below same s ≡ flat_map (sequents_below same) c.1 ++ s ∷ []
  below_by_rule s c e = sequents_below-step s ∙ ap (λ (o : Option (Choice A)). flat_map (sequents_below same) (premises_of o) ++ s ∷ []) e
