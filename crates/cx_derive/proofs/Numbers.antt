-- What is done to numbers is done to the formulas that they stand for.
use Rattle.std.proofs.Common.{◌≡◌, ℕ, zero, suc, ◌+◌, Bool, true, false, ◌||◌, cond, List, [], ◌∷◌, ◌++◌, take, drop, Option, Some, None, refl, sym, ap, subst, ◌∙◌, inl, inr, true≢false}
use Rattle.std.specs.Prelude.{fold, IsSomeAnd, is_some, Result, Ok, Err, IfOk}
use Rattle.cx_base.specs.declared.stop.Stop.{Stop}
use Rattle.std.specs.Cmp.{unsigned_Decides}
use Rattle.std.specs.List.{list_any}
use Rattle.std.proofs.lemmas.List.{map-append}
use Rattle.std.proofs.lemmas.Bool.Decides.{same_from_decides, Decides-like}
use Rattle.cx_base.specs.declared.numbers.FormulaId.{FormulaId}
use Rattle.cx_prop.specs.Formula.{Formula, Atom, same_formula}
use Rattle.cx_numbered.specs.Numbered.{HasEachOnce}
use Rattle.cx_prop.specs.Table.{Has, formula_at}
use Rattle.cx_numbered.proofs.Numbered.{once_get, either, get_is}
use Rattle.cx_prop.proofs.Lemmas.{same_stored-Decides}
use Rattle.cx_derive.specs.declared.goal.Goal.{Goal}
use Rattle.cx_derive.specs.declared.leftmost.Split.{Split}
use Rattle.cx_derive.specs.declared.leftmost.Split.TheVariants as split
use Rattle.cx_derive.specs.declared.rule.SequentRule.{SequentRule}
use Rattle.cx_derive.specs.declared.rule.SequentRule.TheVariants as rule
use Rattle.cx_derive.specs.declared.choice.Premises.{Premises}
use Rattle.cx_derive.specs.declared.choice.Premises.TheVariants as goals
use Rattle.cx_derive.specs.Lists.{is_among, with_new, with_all}
use Rattle.cx_derive.specs.Sequents.{Sequent, Leftmost, leftmost, in_place, shares_formula, and_left, or_left, or_right, and_right}
use Rattle.cx_derive.specs.Search.{Choice, or_else, chosen}
use Rattle.cx_derive.specs.Goals.{formulas_at, HasAll, same_number, sequent_of, HasGoal, split_of, SplitsIn, goals_of, sequents_of, HasGoals, choice_of, HasChoice, placed, IsGoal, IsOne, AreTwo, OnLeft, OnRight}
use Rattle.cx_prop.specs.Interned.{Interned, same_interned}
use Rattle.cx_derive.proofs.Choosing.{fit_left, fit_right, chosen_shared, chosen_split}

abbrev no_formula : Formula Interned
no_formula = Atom (record { node = record { 0 = 0 }; mapping = [] })

module _ (table : List (Formula Interned)) (once : HasEachOnce table) where
  pub number_is : (f g : FormulaId) → Has table f → Has table g → formula_at table f ≡ formula_at table g → f.0 ≡ g.0
  number_is f g hf hg e = once_get table once f.0 g.0 (formula_at table g) (get_is table f.0 no_formula hf ∙ ap Some e) (get_is table g.0 no_formula hg)

  pub same_number_is : (f g : FormulaId) → Has table f → Has table g → same_number f g ≡ same_formula same_interned (formula_at table f) (formula_at table g)
  same_number_is f g hf hg =
      same_from_decides (same_number f g) (same_formula same_interned (formula_at table f) (formula_at table g))
      (Decides-like (same_number f g) (λ (e : f.0 ≡ g.0) i. formula_at table (record { 0 = e (i) })) (λ e. number_is f g hf hg e) (unsigned_Decides f.0 g.0))
      (same_stored-Decides (formula_at table f) (formula_at table g))

  pub head : (f : FormulaId) (fs : List FormulaId) → HasAll table (f ∷ fs) → Has table f
  head f fs h = h 0 f refl

  pub tail : (f : FormulaId) (fs : List FormulaId) → HasAll table (f ∷ fs) → HasAll table fs
  tail f fs h i g e = h (suc i) g e

  pub among_is : (fs : List FormulaId) (f : FormulaId) → HasAll table fs → Has table f → is_among same_number fs f ≡ is_among (same_formula same_interned) (formulas_at table fs) (formula_at table f)
  among_is [] f h hf = refl
  among_is (g ∷ fs) f h hf = λ i. same_number_is f g hf (head g fs h) i || among_is fs f (tail g fs h) hf i

  pub shares_is : (left right : List FormulaId) → HasAll table left → HasAll table right
      → list_any (is_among same_number right) left ≡ list_any (is_among (same_formula same_interned) (formulas_at table right)) (formulas_at table left)
  shares_is [] right hl hr = refl
  shares_is (f ∷ left) right hl hr = λ i. among_is right f hr (head f left hl) i || shares_is left right (tail f left hl) hr i

  pub HasAll-nil : HasAll table []
  HasAll-nil i f e = absurd cc

  pub HasAll-cons : (f : FormulaId) (fs : List FormulaId) → Has table f → HasAll table fs → HasAll table (f ∷ fs)
  HasAll-cons f fs h t zero g e =
      let same : f ≡ g = cc in
      subst (Has table) same h
  HasAll-cons f fs h t (suc i) g e = t i g e

  pub HasAll-append : (fs gs : List FormulaId) → HasAll table fs → HasAll table gs → HasAll table (fs ++ gs)
  HasAll-append [] gs h k = k
  HasAll-append (f ∷ fs) gs h k = HasAll-cons f (fs ++ gs) (head f fs h) (HasAll-append fs gs (tail f fs h) k)

  HasAll-take : (n : ℕ) (fs : List FormulaId) → HasAll table fs → HasAll table (take n fs)
  HasAll-take zero fs h = HasAll-nil
  HasAll-take (suc n) [] h = HasAll-nil
  HasAll-take (suc n) (f ∷ fs) h = HasAll-cons f (take n fs) (head f fs h) (HasAll-take n fs (tail f fs h))

  HasAll-drop : (n : ℕ) (fs : List FormulaId) → HasAll table fs → HasAll table (drop n fs)
  HasAll-drop zero fs h = h
  HasAll-drop (suc n) [] h = HasAll-nil
  HasAll-drop (suc n) (f ∷ fs) h = HasAll-drop n fs (tail f fs h)

  HasAll-new : (fs : List FormulaId) (f : FormulaId) → HasAll table fs → Has table f → HasAll table (with_new same_number fs f)
  HasAll-new fs f h hf =
      elim (either (is_among same_number fs f)) [
        | inl there ↦ subst (HasAll table) (ap (λ (b : Bool). cond b fs (fs ++ f ∷ [])) (sym there)) h
        | inr absent ↦ subst (HasAll table) (ap (λ (b : Bool). cond b fs (fs ++ f ∷ [])) (sym absent)) (HasAll-append fs (f ∷ []) h (HasAll-cons f [] hf HasAll-nil))
      ]

  HasAll-all : (fs gs : List FormulaId) → HasAll table fs → HasAll table gs → HasAll table (with_all same_number fs gs)
  unfolding with_all
  HasAll-all fs [] h k = h
  HasAll-all fs (g ∷ gs) h k = HasAll-all (with_new same_number fs g) gs (HasAll-new fs g h (head g gs k)) (tail g gs k)

  new_is : (fs : List FormulaId) (f : FormulaId) → HasAll table fs → Has table f → formulas_at table (with_new same_number fs f) ≡ with_new (same_formula same_interned) (formulas_at table fs) (formula_at table f)
  new_is fs f h hf =
      by (is_among same_number fs f) ∙ ap (λ (b : Bool). cond b (formulas_at table fs) (formulas_at table fs ++ formula_at table f ∷ [])) (among_is fs f h hf)
    where
      by : (b : Bool) → formulas_at table (cond b fs (fs ++ f ∷ [])) ≡ cond b (formulas_at table fs) (formulas_at table fs ++ formula_at table f ∷ [])
      by true = refl
      by false = map-append (formula_at table) fs (f ∷ [])

  all_is : (fs gs : List FormulaId) → HasAll table fs → HasAll table gs → formulas_at table (with_all same_number fs gs) ≡ with_all (same_formula same_interned) (formulas_at table fs) (formulas_at table gs)
  unfolding with_all
  all_is fs [] h k = refl
  all_is fs (g ∷ gs) h k =
      all_is (with_new same_number fs g) gs (HasAll-new fs g h (head g gs k)) (tail g gs k)
      ∙ ap (λ (ps : List (Formula Interned)). fold (with_new (same_formula same_interned)) ps (formulas_at table gs)) (new_is fs g h (head g gs k))

  abbrev spread : List FormulaId → ℕ → List FormulaId → List FormulaId
  spread fs at parts = take at fs ++ parts ++ drop (at + 1) fs

  HasAll-spread : (fs : List FormulaId) (at : ℕ) (parts : List FormulaId) → HasAll table fs → HasAll table parts → HasAll table (spread fs at parts)
  HasAll-spread fs at parts h k = HasAll-append (take at fs ++ parts) (drop (at + 1) fs) (HasAll-append (take at fs) parts (HasAll-take at fs h) k) (HasAll-drop (at + 1) fs h)

  pub HasAll-placed : (fs : List FormulaId) (at : ℕ) (parts : List FormulaId) → HasAll table fs → HasAll table parts → HasAll table (placed fs at parts)
  HasAll-placed fs at parts h k = HasAll-all [] (spread fs at parts) HasAll-nil (HasAll-spread fs at parts h k)

  pub placed_is : (fs : List FormulaId) (at : ℕ) (parts : List FormulaId) → HasAll table fs → HasAll table parts
      → formulas_at table (placed fs at parts) ≡ in_place same_interned (formulas_at table (take at fs)) (formulas_at table parts) (formulas_at table (drop (at + 1) fs))
  placed_is fs at parts h k =
      all_is [] (spread fs at parts) HasAll-nil (HasAll-spread fs at parts h k)
      ∙ ap (with_all (same_formula same_interned) []) (map-append (formula_at table) (take at fs ++ parts) (drop (at + 1) fs) ∙ ap (λ (ps : List (Formula Interned)). ps ++ formulas_at table (drop (at + 1) fs)) (map-append (formula_at table) (take at fs) parts))

-- ---- the rule that fits

pub some_of : {X : Type 0} (c : Option X) (P : X → Type 0) → IsSomeAnd c P → (x : X) × (c ≡ Some x) × P x
some_of None P h = absurd h
some_of (Some x) P h = (x, refl, h)

pub one_of : (m : Premises) (P : Goal → Type 0) → IsOne m P → (g : Goal) × (m ≡ goals.One g) × P g
one_of goals.None P h = absurd h
one_of (goals.One g) P h = (g, refl, h)
one_of (goals.Two g k) P h = absurd h

pub two_of : (m : Premises) (P Q : Goal → Type 0) → AreTwo m P Q → (g h : Goal) × (m ≡ goals.Two g h) × P g × Q h
two_of goals.None P Q h = absurd h
two_of (goals.One g) P Q h = absurd h
two_of (goals.Two g k) P Q h = (g, k, refl, h.0, h.1)

HasGoals-one : (table : List (Formula Interned)) (g : Goal) → HasGoal table g → HasGoals table (g ∷ [])
HasGoals-one table g h zero k e =
    let same : g ≡ k = cc in
    subst (HasGoal table) same h
HasGoals-one table g h (suc i) k e = absurd cc

HasGoals-two : (table : List (Formula Interned)) (g h : Goal) → HasGoal table g → HasGoal table h → HasGoals table (g ∷ h ∷ [])
HasGoals-two table g h x y zero k e =
    let same : g ≡ k = cc in
    subst (HasGoal table) same x
HasGoals-two table g h x y (suc i) k e = HasGoals-one table h y i k e

module _ (table : List (Formula Interned)) (once : HasEachOnce table) (g : Goal) (has : HasGoal table g) where
  abbrev left : List FormulaId
  left = g.left.items

  abbrev right : List FormulaId
  right = g.right.items

  pair_in : (p q : FormulaId) → Has table p → Has table q → HasAll table (p ∷ q ∷ [])
  pair_in p q hp hq = HasAll-cons table once p (q ∷ []) hp (HasAll-cons table once q [] hq (HasAll-nil table once))

  one_in : (p : FormulaId) → Has table p → HasAll table (p ∷ [])
  one_in p hp = HasAll-cons table once p [] hp (HasAll-nil table once)

  -- a goal with parts in a place
  goal_left : (h : Goal) (at : ℕ) (parts : List FormulaId) → HasAll table parts → IsGoal h (placed left at parts) right
      → (sequent_of table h ≡ record { left = in_place same_interned (formulas_at table (take at left)) (formulas_at table parts) (formulas_at table (drop (at + 1) left)); right = formulas_at table right }) × HasGoal table h
  goal_left h at parts k e = (
    λ i. record { left = (ap (formulas_at table) e.0 ∙ placed_is table once left at parts has.left k) i; right = formulas_at table (e.1 i) },
    record { left = subst (HasAll table) (sym e.0) (HasAll-placed table once left at parts has.left k); right = subst (HasAll table) (sym e.1) has.right },
  )

  goal_right : (h : Goal) (at : ℕ) (parts : List FormulaId) → HasAll table parts → IsGoal h left (placed right at parts)
      → (sequent_of table h ≡ record { left = formulas_at table left; right = in_place same_interned (formulas_at table (take at right)) (formulas_at table parts) (formulas_at table (drop (at + 1) right)) }) × HasGoal table h
  goal_right h at parts k e = (
    λ i. record { left = formulas_at table (e.0 i); right = (ap (formulas_at table) e.1 ∙ placed_is table once right at parts has.right k) i },
    record { left = subst (HasAll table) (sym e.0) has.left; right = subst (HasAll table) (sym e.1) (HasAll-placed table once right at parts has.right k) },
  )

  -- an answer by one premise, or by two
  by_one : (c : Option (SequentRule × Premises)) (r : SequentRule) (P : Goal → Type 0) (s : Sequent Interned) → ((h : Goal) → P h → (sequent_of table h ≡ s) × HasGoal table h)
      → IsSomeAnd c (λ x. (x.0 ≡ r) × IsOne x.1 P) → (choice_of table c ≡ Some (r, s ∷ [])) × HasChoice table c
  by_one c r P s f h =
      let x = some_of c (λ x. (x.0 ≡ r) × IsOne x.1 P) h in
      let m = one_of x.0.1 P x.2.1 in
      let k = f m.0 m.2 in (
        ap (choice_of table) x.1 ∙ (λ i. Some (x.2.0 i, sequents_of table (goals_of (m.1 i)))) ∙ ap (λ (t : Sequent Interned). Some (r, t ∷ [])) k.0,
        subst (HasChoice table) (sym x.1) (subst (λ (n : Premises). HasGoals table (goals_of n)) (sym m.1) (HasGoals-one table m.0 k.1)),
      )

  by_two : (c : Option (SequentRule × Premises)) (r : SequentRule) (P Q : Goal → Type 0) (s t : Sequent Interned) → ((h : Goal) → P h → (sequent_of table h ≡ s) × HasGoal table h) → ((h : Goal) → Q h → (sequent_of table h ≡ t) × HasGoal table h)
      → IsSomeAnd c (λ x. (x.0 ≡ r) × AreTwo x.1 P Q) → (choice_of table c ≡ Some (r, s ∷ t ∷ [])) × HasChoice table c
  by_two c r P Q s t f e h =
      let x = some_of c (λ x. (x.0 ≡ r) × AreTwo x.1 P Q) h in
      let m = two_of x.0.1 P Q x.2.1 in
      let k = f m.0 m.3 in
      let l = e m.1 m.4 in (
        ap (choice_of table) x.1 ∙ (λ i. Some (x.2.0 i, sequents_of table (goals_of (m.2 i)))) ∙ (λ i. Some (r, k.0 i ∷ l.0 i ∷ [])),
        subst (HasChoice table) (sym x.1) (subst (λ (n : Premises). HasGoals table (goals_of n)) (sym m.2) (HasGoals-two table m.0 m.1 k.1 l.1)),
      )

  -- on the left
  pub left_fits : (s : Split) (c : Option (SequentRule × Premises)) (rest : Option (Choice Interned)) → SplitsIn table left s → OnLeft g s c → is_some c ≡ true
      → (choice_of table c ≡ fit_left same_interned (formulas_at table right) (split_of table left s) rest) × HasChoice table c
  left_fits split.Atoms c rest inside on there = absurd (true≢false (sym there ∙ ap is_some on))
  left_fits (split.Both at p q) c rest inside on there =
      by_one c rule.AndL (λ h. IsGoal h (placed left at (p ∷ q ∷ [])) right) _ (λ h k. goal_left h at (p ∷ q ∷ []) (pair_in p q inside.1 inside.2) k) on
  left_fits (split.Either at p q) c rest inside on there =
      by_two c rule.OrL (λ h. IsGoal h (placed left at (p ∷ [])) right) (λ h. IsGoal h (placed left at (q ∷ [])) right) _ _
      (λ h k. goal_left h at (p ∷ []) (one_in p inside.1) k) (λ h k. goal_left h at (q ∷ []) (one_in q inside.2) k) on

  pub left_passes : (s : Split) (c : Option (SequentRule × Premises)) (rest : Option (Choice Interned)) → OnLeft g s c → is_some c ≡ false → rest ≡ fit_left same_interned (formulas_at table right) (split_of table left s) rest
  left_passes split.Atoms c rest on there = refl
  left_passes (split.Both at p q) c rest on there =
      let x = some_of c (λ x. (x.0 ≡ rule.AndL) × IsOne x.1 (λ h. IsGoal h (placed left at (p ∷ q ∷ [])) right)) on in
      absurd (true≢false (sym (ap is_some x.1) ∙ there))
  left_passes (split.Either at p q) c rest on there =
      let x = some_of c (λ x. (x.0 ≡ rule.OrL) × AreTwo x.1 (λ h. IsGoal h (placed left at (p ∷ [])) right) (λ h. IsGoal h (placed left at (q ∷ [])) right)) on in
      absurd (true≢false (sym (ap is_some x.1) ∙ there))

  -- on the right
  pub right_fits : (s : Split) (c : Option (SequentRule × Premises)) → SplitsIn table right s → OnRight g s c
      → (choice_of table c ≡ fit_right same_interned (formulas_at table left) (split_of table right s)) × HasChoice table c
  right_fits split.Atoms c inside on = (ap (choice_of table) on, subst (HasChoice table) (sym on) tt)
  right_fits (split.Both at p q) c inside on =
      by_two c rule.AndR (λ h. IsGoal h left (placed right at (p ∷ []))) (λ h. IsGoal h left (placed right at (q ∷ []))) _ _
      (λ h k. goal_right h at (p ∷ []) (one_in p inside.1) k) (λ h k. goal_right h at (q ∷ []) (one_in q inside.2) k) on
  right_fits (split.Either at p q) c inside on =
      by_one c rule.OrR (λ h. IsGoal h left (placed right at (p ∷ q ∷ []))) _ (λ h k. goal_right h at (p ∷ q ∷ []) (pair_in p q inside.1 inside.2) k) on

  abbrev whole : Sequent Interned
  whole = sequent_of table g

  pub shared_test : (b : Bool) (dl dr : List FormulaId) → b ≡ list_any (is_among same_number dr) dl → dl ≡ left → dr ≡ right → b ≡ shares_formula same_interned (sequent_of table g)
  shared_test b dl dr h el er = h ∙ (λ i. list_any (is_among same_number (er i)) (el i)) ∙ shares_is table once left right has.left has.right

  pub left_chosen : (b : Bool) (dl : List FormulaId) (s : Split) (c : Option (SequentRule × Premises)) → b ≡ shares_formula same_interned (sequent_of table g) → b ≡ false → dl ≡ left → split_of table dl s ≡ leftmost (formulas_at table dl) → SplitsIn table dl s
      → OnLeft g s c → is_some c ≡ true → (choice_of table c ≡ chosen same_interned (sequent_of table g)) × HasChoice table c
  left_chosen b dl s c shared unshared el is inside on there =
      let fits = left_fits s c (fit_right same_interned (formulas_at table left) (leftmost (formulas_at table right))) (subst (λ (fs : List FormulaId). SplitsIn table fs s) el inside) on there in
      let at : split_of table left s ≡ leftmost (formulas_at table left) = subst (λ (fs : List FormulaId). split_of table fs s ≡ leftmost (formulas_at table fs)) el is in
      (fits.0 ∙ ap (λ (l : Leftmost Interned). fit_left same_interned (formulas_at table right) l (fit_right same_interned (formulas_at table left) (leftmost (formulas_at table right)))) at ∙ sym (chosen_split same_interned (sequent_of table g) (sym shared ∙ unshared)), fits.1)

  right_chosen : (b : Bool) (dl dr : List FormulaId) (s t : Split) (c d : Option (SequentRule × Premises)) → b ≡ shares_formula same_interned (sequent_of table g) → b ≡ false
      → dl ≡ left → split_of table dl s ≡ leftmost (formulas_at table dl) → OnLeft g s c → is_some c ≡ false
      → dr ≡ right → split_of table dr t ≡ leftmost (formulas_at table dr) → SplitsIn table dr t → OnRight g t d
      → (choice_of table d ≡ chosen same_interned (sequent_of table g)) × HasChoice table d
  right_chosen b dl dr s t c d shared unshared el lis on none er ris inside right_on =
      let fits = right_fits t d (subst (λ (fs : List FormulaId). SplitsIn table fs t) er inside) right_on in
      let atl : split_of table left s ≡ leftmost (formulas_at table left) = subst (λ (fs : List FormulaId). split_of table fs s ≡ leftmost (formulas_at table fs)) el lis in
      let atr : split_of table right t ≡ leftmost (formulas_at table right) = subst (λ (fs : List FormulaId). split_of table fs t ≡ leftmost (formulas_at table fs)) er ris in
      let rest = fit_right same_interned (formulas_at table left) (leftmost (formulas_at table right)) in (
        fits.0 ∙ ap (fit_right same_interned (formulas_at table left)) atr
            ∙ left_passes s c rest on none ∙ ap (λ (l : Leftmost Interned). fit_left same_interned (formulas_at table right) l rest) atl
            ∙ sym (chosen_split same_interned (sequent_of table g) (sym shared ∙ unshared)),
        fits.1,
      )

  module _ (b : Bool) (dl dr : List FormulaId) (s t : Split) (c : Option (SequentRule × Premises)) (shared : b ≡ shares_formula same_interned (sequent_of table g)) (unshared : b ≡ false)
      (el : dl ≡ left) (lis : split_of table dl s ≡ leftmost (formulas_at table dl)) (on : OnLeft g s c) (none : is_some c ≡ false)
      (er : dr ≡ right) (ris : split_of table dr t ≡ leftmost (formulas_at table dr)) (inside : SplitsIn table dr t) where
    pub right_choice : (r : Result (Option (SequentRule × Premises)) Stop) → IfOk r (OnRight g t) → IfOk r (λ d. choice_of table d ≡ chosen same_interned (sequent_of table g))
    right_choice (Ok d) h = (right_chosen b dl dr s t c d shared unshared el lis on none er ris inside h).0
    right_choice (Err e) h = tt

    pub right_has : (r : Result (Option (SequentRule × Premises)) Stop) → IfOk r (OnRight g t) → IfOk r (HasChoice table)
    right_has (Ok d) h = (right_chosen b dl dr s t c d shared unshared el lis on none er ris inside h).1
    right_has (Err e) h = tt
