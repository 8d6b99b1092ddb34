-- Each rule keeps what is true under a valuation, both ways.
use Rattle.std.proofs.Common.{◌≡◌, Bool, true, false, ◌&&◌, ◌||◌, not, cond, List, [], ◌∷◌, ◌++◌, Some, None, refl, sym, ap, ◌∙◌, inl, inr, true≢false}
use Rattle.std.specs.List.{list_any, list_all}
use Rattle.std.proofs.lemmas.List.Folds.{list_any-append}
use Rattle.cx_prop.specs.Formula.{Formula, Atom, And, Or, IsEquality, same_formula}
use Rattle.cx_prop.specs.Truth.{Valuation, truth}
use Rattle.cx_numbered.proofs.Numbered.{either, or_cases, or_left, or_right}
use Rattle.cx_prop.proofs.Lemmas.{and_left, and_right, and_both}
use Rattle.cx_prop.proofs.Lemmas.{same_formula-Decides}
use Rattle.cx_derive.specs.declared.rule.SequentRule.{SequentRule}
use Rattle.cx_derive.specs.declared.rule.SequentRule.TheVariants as rule
use Rattle.cx_derive.specs.Lists.{is_among, with_new, with_all}
use Rattle.cx_derive.specs.Sequents.{Sequent, Leftmost, Atoms, Conjunction, Disjunction, behind, leftmost, in_place, shares_formula, and_left as and_left_by, or_left as or_left_by, or_right as or_right_by, and_right as and_right_by, premises}

-- ---- tests of all and any

and_assoc : (a b c : Bool) → ((a && b) && c) ≡ (a && (b && c))
and_assoc true b c = refl
and_assoc false b c = refl

and_true : (b : Bool) → (b && true) ≡ b
and_true true = refl
and_true false = refl

or_false : (b : Bool) → (b || false) ≡ b
or_false true = refl
or_false false = refl

pub list_all-append : {X : Type 0} (t : X → Bool) (xs ys : List X) → list_all t (xs ++ ys) ≡ (list_all t xs && list_all t ys)
list_all-append t [] ys = refl
list_all-append t (x ∷ xs) ys = ap (λ b. t x && b) (list_all-append t xs ys) ∙ sym (and_assoc (t x) (list_all t xs) (list_all t ys))

all_found : {X : Type 0} (t : X → Bool) (same : X → X → Bool) → ((x y : X) → same x y ≡ true → x ≡ y) → (xs : List X) (x : X) → list_all t xs ≡ true → is_among same xs x ≡ true → t x ≡ true
all_found t same is [] x h k = absurd (true≢false (sym k))
all_found t same is (y ∷ xs) x h k =
    elim (or_cases (same x y) (list_any (same x) xs) k) [
      | inl here ↦ ap t (is x y here) ∙ and_left (t y) (list_all t xs) h
      | inr later ↦ all_found t same is xs x (and_right (t y) (list_all t xs) h) later
    ]

any_found : {X : Type 0} (t : X → Bool) (same : X → X → Bool) → ((x y : X) → same x y ≡ true → x ≡ y) → (xs : List X) (x : X) → t x ≡ true → is_among same xs x ≡ true → list_any t xs ≡ true
any_found t same is [] x h k = absurd (true≢false (sym k))
any_found t same is (y ∷ xs) x h k =
    elim (or_cases (same x y) (list_any (same x) xs) k) [
      | inl here ↦ or_left (t y) (list_any t xs) (ap t (sym (is x y here)) ∙ h)
      | inr later ↦ or_right (t y) (list_any t xs) (any_found t same is xs x h later)
    ]

both_ways : (a b : Bool) → (a ≡ true → b ≡ true) → (b ≡ true → a ≡ true) → a ≡ b
both_ways true true f g = refl
both_ways true false f g = sym (f refl)
both_ways false true f g = g refl
both_ways false false f g = refl

-- a list without repeats passes the same tests
module _ {X : Type 0} (t : X → Bool) (same : X → X → Bool) (is : (x y : X) → same x y ≡ true → x ≡ y) where
  all_new : (xs : List X) (x : X) → list_all t (with_new same xs x) ≡ (list_all t xs && t x)
  all_new xs x =
      elim (either (is_among same xs x)) [
        | inl there ↦
            ap (λ (b : Bool). list_all t (cond b xs (xs ++ x ∷ []))) there
            ∙ both_ways (list_all t xs) (list_all t xs && t x) (λ h. and_both (list_all t xs) (t x) h (all_found t same is xs x h there)) (and_left (list_all t xs) (t x))
        | inr absent ↦
            ap (λ (b : Bool). list_all t (cond b xs (xs ++ x ∷ []))) absent ∙ list_all-append t xs (x ∷ []) ∙ ap (λ (b : Bool). list_all t xs && b) (and_true (t x))
      ]

  any_new : (xs : List X) (x : X) → list_any t (with_new same xs x) ≡ (list_any t xs || t x)
  any_new xs x =
      elim (either (is_among same xs x)) [
        | inl there ↦
            ap (λ (b : Bool). list_any t (cond b xs (xs ++ x ∷ []))) there
            ∙ both_ways (list_any t xs) (list_any t xs || t x) (or_left (list_any t xs) (t x))
            (λ h. elim (or_cases (list_any t xs) (t x) h) [ inl before ↦ before | inr here ↦ any_found t same is xs x here there ])
        | inr absent ↦
            ap (λ (b : Bool). list_any t (cond b xs (xs ++ x ∷ []))) absent ∙ list_any-append t xs (x ∷ []) ∙ ap (λ (b : Bool). list_any t xs || b) (or_false (t x))
      ]

  or_assoc : (a b c : Bool) → ((a || b) || c) ≡ (a || (b || c))
  or_assoc true b c = refl
  or_assoc false b c = refl

  pub all_with : (xs ys : List X) → list_all t (with_all same xs ys) ≡ (list_all t xs && list_all t ys)
  unfolding with_all
  all_with xs [] = sym (and_true (list_all t xs))
  all_with xs (y ∷ ys) =
      all_with (with_new same xs y) ys ∙ ap (λ (b : Bool). b && list_all t ys) (all_new xs y) ∙ and_assoc (list_all t xs) (t y) (list_all t ys)

  pub any_with : (xs ys : List X) → list_any t (with_all same xs ys) ≡ (list_any t xs || list_any t ys)
  unfolding with_all
  any_with xs [] = sym (or_false (list_any t xs))
  any_with xs (y ∷ ys) =
      any_with (with_new same xs y) ys ∙ ap (λ (b : Bool). b || list_any t ys) (any_new xs y) ∙ or_assoc (list_any t xs) (t y) (list_any t ys)

module _ {A : Type 0} (v : Valuation A) where
  abbrev all : List (Formula A) → Bool
  all ps = list_all (truth v) ps

  abbrev any : List (Formula A) → Bool
  any ps = list_any (truth v) ps

  -- ---- sequents as tests

  abbrev pub holds : Sequent A → Bool
  holds s = not (all s.left) || any s.right

  abbrev pub all_hold : List (Sequent A) → Bool
  all_hold ss = list_all holds ss

-- ---- each rule keeps what holds

two_together : (b p q a r : Bool) → ((not (b && ((p && (q && true)) && a)) || r) && true) ≡ (not (b && ((p && q) && a)) || r)
two_together false p q a r = refl
two_together true false q a r = refl
two_together true true false a r = refl
two_together true true true false r = refl
two_together true true true true true = refl
two_together true true true true false = refl

one_each : (b p q a r : Bool) → ((not (b && ((p && true) && a)) || r) && ((not (b && ((q && true) && a)) || r) && true)) ≡ (not (b && ((p || q) && a)) || r)
one_each false p q a r = refl
one_each true false false a r = refl
one_each true true false false r = refl
one_each true true false true true = refl
one_each true true false true false = refl
one_each true false true false r = refl
one_each true false true true true = refl
one_each true false true true false = refl
one_each true true true false r = refl
one_each true true true true true = refl
one_each true true true true false = refl

either_right : (l b p q a : Bool) → ((not l || (b || ((p || (q || false)) || a))) && true) ≡ (not l || (b || ((p || q) || a)))
either_right false b p q a = refl
either_right true true p q a = refl
either_right true false true q a = refl
either_right true false false true a = refl
either_right true false false false true = refl
either_right true false false false false = refl

each_right : (l b p q a : Bool) → ((not l || (b || ((p || false) || a))) && ((not l || (b || ((q || false) || a))) && true)) ≡ (not l || (b || ((p && q) || a)))
each_right false b p q a = refl
each_right true true p q a = refl
each_right true false true true a = refl
each_right true false true false true = refl
each_right true false true false false = refl
each_right true false false true true = refl
each_right true false false true false = refl
each_right true false false false true = refl
each_right true false false false false = refl

some_same : {X : Type 0} {x y : X} → Some x ≡ Some y → x ≡ y
some_same e = cc

module _ {A : Type 0} (same : A → A → Bool) (decides : IsEquality same) where
  abbrev same_is : (p q : Formula A) → same_formula same p q ≡ true → p ≡ q
  same_is p q = (same_formula-Decides same decides p q).0

  -- ---- the parts in the place of a compound formula

  module _ (v : Valuation A) where
    abbrev all_true : List (Formula A) → Bool
    all_true = all v

    abbrev any_true : List (Formula A) → Bool
    any_true = any v

    all_in_place : (before parts after : List (Formula A)) → all_true (in_place same before parts after) ≡ (all_true before && (all_true parts && all_true after))
    all_in_place before parts after =
        all_with (truth v) (same_formula same) same_is [] (before ++ parts ++ after) ∙ list_all-append (truth v) (before ++ parts) after
        ∙ ap (λ (b : Bool). b && all_true after) (list_all-append (truth v) before parts) ∙ and_assoc (all_true before) (all_true parts) (all_true after)

    or_regroup : (a b c : Bool) → ((a || b) || c) ≡ (a || (b || c))
    or_regroup true b c = refl
    or_regroup false b c = refl

    any_in_place : (before parts after : List (Formula A)) → any_true (in_place same before parts after) ≡ (any_true before || (any_true parts || any_true after))
    any_in_place before parts after =
        any_with (truth v) (same_formula same) same_is [] (before ++ parts ++ after) ∙ list_any-append (truth v) (before ++ parts) after
        ∙ ap (λ (b : Bool). b || any_true after) (list_any-append (truth v) before parts) ∙ or_regroup (any_true before) (any_true parts) (any_true after)

    -- what a list says, by its leftmost compound formula
    abbrev all_of : Leftmost A → Bool → Bool
    all_of Atoms b = b
    all_of (Conjunction before p q after) b = all_true before && ((truth v p && truth v q) && all_true after)
    all_of (Disjunction before p q after) b = all_true before && ((truth v p || truth v q) && all_true after)

    abbrev any_of : Leftmost A → Bool → Bool
    any_of Atoms b = b
    any_of (Conjunction before p q after) b = any_true before || ((truth v p && truth v q) || any_true after)
    any_of (Disjunction before p q after) b = any_true before || ((truth v p || truth v q) || any_true after)

    all_behind : (p : Formula A) (l : Leftmost A) (b : Bool) → all_of (behind p l) (truth v p && b) ≡ (truth v p && all_of l b)
    all_behind p Atoms b = refl
    all_behind p (Conjunction before q r after) b = and_assoc (truth v p) (all_true before) ((truth v q && truth v r) && all_true after)
    all_behind p (Disjunction before q r after) b = and_assoc (truth v p) (all_true before) ((truth v q || truth v r) && all_true after)

    any_behind : (p : Formula A) (l : Leftmost A) (b : Bool) → any_of (behind p l) (truth v p || b) ≡ (truth v p || any_of l b)
    any_behind p Atoms b = refl
    any_behind p (Conjunction before q r after) b = or_regroup (truth v p) (any_true before) ((truth v q && truth v r) || any_true after)
    any_behind p (Disjunction before q r after) b = or_regroup (truth v p) (any_true before) ((truth v q || truth v r) || any_true after)

    pub all_leftmost : (ps : List (Formula A)) → all_of (leftmost ps) (all_true ps) ≡ all_true ps
    all_leftmost [] = refl
    all_leftmost (Atom a ∷ ps) = all_behind (Atom a) (leftmost ps) (all_true ps) ∙ ap (λ (b : Bool). v a && b) (all_leftmost ps)
    all_leftmost (And p q ∷ ps) = refl
    all_leftmost (Or p q ∷ ps) = refl

    pub any_leftmost : (ps : List (Formula A)) → any_of (leftmost ps) (any_true ps) ≡ any_true ps
    any_leftmost [] = refl
    any_leftmost (Atom a ∷ ps) = any_behind (Atom a) (leftmost ps) (any_true ps) ∙ ap (λ (b : Bool). v a || b) (any_leftmost ps)
    any_leftmost (And p q ∷ ps) = refl
    any_leftmost (Or p q ∷ ps) = refl

  module _ (v : Valuation A) where
    abbrev Left : List (Formula A) → Bool
    Left ps = all v ps

    abbrev Right : List (Formula A) → Bool
    Right ps = any v ps

    keeps_and_left : (l : Leftmost A) (left right : List (Formula A)) (ps : List (Sequent A)) → all_of v l (Left left) ≡ Left left → and_left_by same right l ≡ Some ps → all_hold v ps ≡ holds v (record { left = left; right = right })
    keeps_and_left Atoms left right ps h e = absurd cc
    keeps_and_left (Conjunction before p q after) left right ps h e =
        ap (all_hold v) (sym (some_same e))
        ∙ ap (λ (b : Bool). (not b || Right right) && true) (all_in_place v before (p ∷ q ∷ []) after)
        ∙ two_together (Left before) (truth v p) (truth v q) (Left after) (Right right)
        ∙ ap (λ (b : Bool). not b || Right right) h
    keeps_and_left (Disjunction before p q after) left right ps h e = absurd cc

    keeps_or_left : (l : Leftmost A) (left right : List (Formula A)) (ps : List (Sequent A)) → all_of v l (Left left) ≡ Left left → or_left_by same right l ≡ Some ps → all_hold v ps ≡ holds v (record { left = left; right = right })
    keeps_or_left Atoms left right ps h e = absurd cc
    keeps_or_left (Conjunction before p q after) left right ps h e = absurd cc
    keeps_or_left (Disjunction before p q after) left right ps h e =
        ap (all_hold v) (sym (some_same e))
        ∙ (λ i. (not (all_in_place v before (p ∷ []) after i) || Right right) && ((not (all_in_place v before (q ∷ []) after i) || Right right) && true))
        ∙ one_each (Left before) (truth v p) (truth v q) (Left after) (Right right)
        ∙ ap (λ (b : Bool). not b || Right right) h

    keeps_or_right : (l : Leftmost A) (left right : List (Formula A)) (ps : List (Sequent A)) → any_of v l (Right right) ≡ Right right → or_right_by same left l ≡ Some ps → all_hold v ps ≡ holds v (record { left = left; right = right })
    keeps_or_right Atoms left right ps h e = absurd cc
    keeps_or_right (Conjunction before p q after) left right ps h e = absurd cc
    keeps_or_right (Disjunction before p q after) left right ps h e =
        ap (all_hold v) (sym (some_same e))
        ∙ ap (λ (b : Bool). (not (Left left) || b) && true) (any_in_place v before (p ∷ q ∷ []) after)
        ∙ either_right (Left left) (Right before) (truth v p) (truth v q) (Right after)
        ∙ ap (λ (b : Bool). not (Left left) || b) h

    keeps_and_right : (l : Leftmost A) (left right : List (Formula A)) (ps : List (Sequent A)) → any_of v l (Right right) ≡ Right right → and_right_by same left l ≡ Some ps → all_hold v ps ≡ holds v (record { left = left; right = right })
    keeps_and_right Atoms left right ps h e = absurd cc
    keeps_and_right (Conjunction before p q after) left right ps h e =
        ap (all_hold v) (sym (some_same e))
        ∙ (λ i. (not (Left left) || any_in_place v before (p ∷ []) after i) && ((not (Left left) || any_in_place v before (q ∷ []) after i) && true))
        ∙ each_right (Left left) (Right before) (truth v p) (truth v q) (Right after)
        ∙ ap (λ (b : Bool). not (Left left) || b) h
    keeps_and_right (Disjunction before p q after) left right ps h e = absurd cc

    not_or : (a b : Bool) → (a ≡ true → b ≡ true) → (not a || b) ≡ true
    not_or true b h = h refl
    not_or false b h = refl

    shared_holds : (left right : List (Formula A)) → list_any (is_among (same_formula same) right) left ≡ true → Left left ≡ true → Right right ≡ true
    shared_holds [] right h k = absurd (true≢false (sym h))
    shared_holds (p ∷ left) right h k =
        elim (or_cases (is_among (same_formula same) right p) (list_any (is_among (same_formula same) right) left) h) [
          | inl here ↦ any_found (truth v) (same_formula same) same_is right p (and_left (truth v p) (Left left) k) here
          | inr later ↦ shared_holds left right later (and_right (truth v p) (Left left) k)
        ]

    if_some : (b : Bool) (ps : List (Sequent A)) → cond b (Some []) None ≡ Some ps → (b ≡ true) × ([] ≡ ps)
    if_some true ps e = (refl, some_same e)
    if_some false ps e = absurd cc

    -- a sequent holds under a valuation exactly where all of a rule's premises do
    pub premises_hold : (r : SequentRule) (s : Sequent A) (ps : List (Sequent A)) → premises same r s ≡ Some ps → all_hold v ps ≡ holds v s
    premises_hold rule.Id s ps e =
        let t = if_some (shares_formula same s) ps e in
        ap (all_hold v) (sym t.1) ∙ sym (not_or (Left s.left) (Right s.right) (shared_holds s.left s.right t.0))
    premises_hold rule.AndL s ps e = keeps_and_left (leftmost s.left) s.left s.right ps (all_leftmost v s.left) e
    premises_hold rule.OrL s ps e = keeps_or_left (leftmost s.left) s.left s.right ps (all_leftmost v s.left) e
    premises_hold rule.OrR s ps e = keeps_or_right (leftmost s.right) s.left s.right ps (any_leftmost v s.right) e
    premises_hold rule.AndR s ps e = keeps_and_right (leftmost s.right) s.left s.right ps (any_leftmost v s.right) e
