-- What renaming atoms keeps of sequents and derivations.
use Rattle.std.proofs.Common.{◌≡◌, ℕ, zero, suc, ◌+◌, Bool, true, false, ◌&&◌, ◌||◌, not, cond, List, [], ◌∷◌, ◌++◌, map, take, Option, Some, None, refl, sym, ap, subst, ◌∙◌, inl, inr}
use Rattle.std.specs.Prelude.{◌↔◌, slice_get, option_map, fold}
use Rattle.std.specs.List.{flat_map, position_or_len}
use Rattle.std.specs.Option.{option_or}
use Rattle.std.specs.Cmp.Lexicographic.{pointwise}
use Rattle.std.proofs.lemmas.List.{map-append}
use Rattle.cx_prop.specs.Formula.{Formula, Atom, And, Or, IsEquality, AtomsAre, TellsApart, renamed, same_formula}
use Rattle.cx_numbered.proofs.Numbered.{either}
use Rattle.cx_prop.proofs.Lemmas.{renamed-equal, same-renamed}
use Rattle.cx_derive.specs.declared.rule.SequentRule.{SequentRule}
use Rattle.cx_derive.specs.declared.rule.SequentRule.TheVariants as rule
use Rattle.cx_derive.specs.Lists.{is_among, with_new, with_all, without_repeats}
use Rattle.cx_derive.specs.Sequents.{Sequent, Leftmost, Atoms, Conjunction, Disjunction, behind, leftmost, in_place, same_formulas, same_sequent, shares_formula, and_left, or_left, or_right, and_right, premises}
use Rattle.cx_derive.specs.Derivations.{Inference, conclusions, IsRightStep, IsRight, against}
use Rattle.cx_derive.specs.Search.{Choice, or_else, first_fit, chosen, premises_of, connectives, connectives_in, depth, sequents_to, first_some, open_at, leaf_to, sequents_below, open_leaf, number_among, inference_by, inference_in, inferences, canonical}
use Rattle.cx_derive.specs.Renaming.{renamed_sequent, renamed_inference, Each, SequentIs, StepsAre}
use Rattle.cx_derive.specs.Laws.{LawOfRenamedDerivations}

-- ---- lists whose elements are mapped

Each-append : {X : Type 0} (P : X → Type 0) (xs ys : List X) → Each P xs → Each P ys → Each P (xs ++ ys)
Each-append P [] ys h k = k
Each-append P (x ∷ xs) ys h k = (h.0, Each-append P xs ys h.1 k)

Each-take : {X : Type 0} (P : X → Type 0) (n : ℕ) (xs : List X) → Each P xs → Each P (take n xs)
Each-take P zero xs h = tt
Each-take P (suc n) [] h = tt
Each-take P (suc n) (x ∷ xs) h = (h.0, Each-take P n xs h.1)

Each-get : {X : Type 0} (P : X → Type 0) (xs : List X) (k : ℕ) (x : X) → Each P xs → slice_get xs k ≡ Some x → P x
Each-get P [] k x h e = absurd cc
Each-get P (y ∷ xs) zero x h e =
    let same : y ≡ x = cc in
    subst P same h.0
Each-get P (y ∷ xs) (suc k) x h e = Each-get P xs k x h.1 e

get_mapped : {X Y : Type 0} (g : X → Y) (xs : List X) (k : ℕ) → slice_get (map g xs) k ≡ option_map g (slice_get xs k)
get_mapped g [] k = refl
get_mapped g (x ∷ xs) zero = refl
get_mapped g (x ∷ xs) (suc k) = get_mapped g xs k

got_mapped : {X Y : Type 0} (g : X → Y) (xs : List X) (k : ℕ) (y : Y) → slice_get (map g xs) k ≡ Some y → (x : X) × (slice_get xs k ≡ Some x) × (g x ≡ y)
got_mapped g [] k y e = absurd cc
got_mapped g (x ∷ xs) zero y e =
    let same : g x ≡ y = cc in
    (x, refl, same)
got_mapped g (x ∷ xs) (suc k) y e = got_mapped g xs k y e

take_mapped : {X Y : Type 0} (g : X → Y) (k : ℕ) (xs : List X) → take k (map g xs) ≡ map g (take k xs)
take_mapped g zero xs = refl
take_mapped g (suc k) [] = refl
take_mapped g (suc k) (x ∷ xs) = ap (λ ys. g x ∷ ys) (take_mapped g k xs)

-- two tests agree on elements of a kind and on what they are mapped to
module _ {X Y : Type 0} (g : X → Y) (P : X → Type 0) (same : X → X → Bool) (named : Y → Y → Bool) (agree : (x y : X) → P x → P y → named (g x) (g y) ≡ same x y) where
  among_mapped : (xs : List X) (x : X) → Each P xs → P x → is_among named (map g xs) (g x) ≡ is_among same xs x
  among_mapped [] x h k = refl
  among_mapped (y ∷ xs) x h k = λ i. agree x y k h.0 i || among_mapped xs x h.1 k i

  Each-new : (xs : List X) (x : X) → Each P xs → P x → Each P (with_new same xs x)
  Each-new xs x h k = by (is_among same xs x)
    where
      by : (b : Bool) → Each P (cond b xs (xs ++ x ∷ []))
      by true = h
      by false = Each-append P xs (x ∷ []) h (k, tt)

  Each-all : (xs ys : List X) → Each P xs → Each P ys → Each P (with_all same xs ys)
  unfolding with_all
  Each-all xs [] h k = h
  Each-all xs (y ∷ ys) h k = Each-all (with_new same xs y) ys (Each-new xs y h k.0) k.1

  new_mapped : (xs : List X) (x : X) → Each P xs → P x → map g (with_new same xs x) ≡ with_new named (map g xs) (g x)
  new_mapped xs x h k = by (is_among same xs x) ∙ ap (λ (b : Bool). cond b (map g xs) (map g xs ++ g x ∷ [])) (sym (among_mapped xs x h k))
    where
      by : (b : Bool) → map g (cond b xs (xs ++ x ∷ [])) ≡ cond b (map g xs) (map g xs ++ g x ∷ [])
      by true = refl
      by false = map-append g xs (x ∷ [])

  all_mapped : (xs ys : List X) → Each P xs → Each P ys → map g (with_all same xs ys) ≡ with_all named (map g xs) (map g ys)
  unfolding with_all
  all_mapped xs [] h k = refl
  all_mapped xs (y ∷ ys) h k =
      all_mapped (with_new same xs y) ys (Each-new xs y h k.0) k.1
      ∙ ap (λ (zs : List Y). fold (with_new named) zs (map g ys)) (new_mapped xs y h k.0)

  position_mapped : (xs : List X) (x : X) → Each P xs → P x → position_or_len (named (g x)) (map g xs) ≡ position_or_len (same x) xs
  position_mapped [] x h k = refl
  position_mapped (y ∷ xs) x h k = λ i. cond (not (agree x y k h.0 i)) (1 + position_mapped xs x h.1 k i) 0

-- ---- without any test

module _ {A B : Type 0} (f : A → B) where
  abbrev R : List (Formula A) → List (Formula B)
  R ps = map (renamed f) ps

  abbrev RS : Sequent A → Sequent B
  RS = renamed_sequent f

  abbrev RL : Leftmost A → Leftmost B
  RL Atoms = Atoms
  RL (Conjunction before p q after) = Conjunction (R before) (renamed f p) (renamed f q) (R after)
  RL (Disjunction before p q after) = Disjunction (R before) (renamed f p) (renamed f q) (R after)

  abbrev RC : Choice A → Choice B
  RC c = (c.0, map RS c.1)

  behind_renamed : (p : Formula A) (l : Leftmost A) → behind (renamed f p) (RL l) ≡ RL (behind p l)
  behind_renamed p Atoms = refl
  behind_renamed p (Conjunction before q r after) = refl
  behind_renamed p (Disjunction before q r after) = refl

  leftmost_renamed : (ps : List (Formula A)) → leftmost (R ps) ≡ RL (leftmost ps)
  leftmost_renamed [] = refl
  leftmost_renamed (Atom a ∷ ps) = ap (behind (Atom (f a))) (leftmost_renamed ps) ∙ behind_renamed (Atom a) (leftmost ps)
  leftmost_renamed (And p q ∷ ps) = refl
  leftmost_renamed (Or p q ∷ ps) = refl

  connectives_renamed : (p : Formula A) → connectives (renamed f p) ≡ connectives p
  connectives_renamed (Atom a) = refl
  connectives_renamed (And p q) = λ i. 1 + (connectives_renamed p i + connectives_renamed q i)
  connectives_renamed (Or p q) = λ i. 1 + (connectives_renamed p i + connectives_renamed q i)

  connectives_in_renamed : (ps : List (Formula A)) → connectives_in (R ps) ≡ connectives_in ps
  connectives_in_renamed [] = refl
  connectives_in_renamed (p ∷ ps) = λ i. connectives_renamed p i + connectives_in_renamed ps i

  depth_renamed : (s : Sequent A) → depth (RS s) ≡ depth s
  depth_renamed s = λ i. connectives_in_renamed s.left i + connectives_in_renamed s.right i

  or_else_renamed : (o : Option (List (Sequent A))) (r : SequentRule) (later : Option (Choice A)) → or_else (option_map (map RS) o) r (option_map RC later) ≡ option_map RC (or_else o r later)
  or_else_renamed None r later = refl
  or_else_renamed (Some ps) r later = refl

  premises_of_renamed : (o : Option (Choice A)) → premises_of (option_map RC o) ≡ map RS (premises_of o)
  premises_of_renamed None = refl
  premises_of_renamed (Some c) = refl

  open_at_renamed : (s : Sequent A) (o : Option (Choice A)) (later : Option (Sequent A)) → open_at (RS s) (option_map RC o) (option_map RS later) ≡ option_map RS (open_at s o later)
  open_at_renamed s None later = refl
  open_at_renamed s (Some c) later = refl

  option_or_renamed : (o p : Option (Sequent A)) → option_or (option_map RS o) (option_map RS p) ≡ option_map RS (option_or o p)
  option_or_renamed None p = refl
  option_or_renamed (Some s) p = refl

  conclusions_renamed : (d : List (Inference A)) → conclusions (map (renamed_inference f) d) ≡ map RS (conclusions d)
  conclusions_renamed [] = refl
  conclusions_renamed (i ∷ d) = ap (λ (ss : List (Sequent B)). RS i.conclusion ∷ ss) (conclusions_renamed d)

-- ---- kinds of sequents and choices

module _ {A : Type 0} (kind : A → Bool) where
  abbrev Lists : List (Formula A) → Type 0
  Lists ps = Each (AtomsAre kind) ps

  abbrev Sequents : List (Sequent A) → Type 0
  Sequents ss = Each (SequentIs kind) ss

  abbrev LeftmostIs : Leftmost A → Type 0
  LeftmostIs Atoms = Unit {0}
  LeftmostIs (Conjunction before p q after) = Lists before × AtomsAre kind p × AtomsAre kind q × Lists after
  LeftmostIs (Disjunction before p q after) = Lists before × AtomsAre kind p × AtomsAre kind q × Lists after

  abbrev PremisesAre : Option (List (Sequent A)) → Type 0
  PremisesAre None = Unit {0}
  PremisesAre (Some ss) = Sequents ss

  behind_is : (p : Formula A) (l : Leftmost A) → AtomsAre kind p → LeftmostIs l → LeftmostIs (behind p l)
  behind_is p Atoms h k = tt
  behind_is p (Conjunction before q r after) h k = ((h, k.0), k.1, k.2, k.3)
  behind_is p (Disjunction before q r after) h k = ((h, k.0), k.1, k.2, k.3)

  leftmost_is : (ps : List (Formula A)) → Lists ps → LeftmostIs (leftmost ps)
  leftmost_is [] h = tt
  leftmost_is (Atom a ∷ ps) h = behind_is (Atom a) (leftmost ps) h.0 (leftmost_is ps h.1)
  leftmost_is (And p q ∷ ps) h = (tt, h.0.0, h.0.1, h.1)
  leftmost_is (Or p q ∷ ps) h = (tt, h.0.0, h.0.1, h.1)

  or_else_is : (o : Option (List (Sequent A))) (r : SequentRule) (later : Option (Choice A)) → PremisesAre o → Sequents (premises_of later) → Sequents (premises_of (or_else o r later))
  or_else_is None r later h k = k
  or_else_is (Some ss) r later h k = h

-- ---- renaming that tells the atoms of a kind apart

module _ {A B : Type 0} (f : A → B) (kind : A → Bool) (apart : TellsApart kind f) (same : A → A → Bool) (decides : IsEquality same) (named : B → B → Bool) (names : IsEquality named) where
  same_is : (p q : Formula A) → AtomsAre kind p → AtomsAre kind q → same_formula named (renamed f p) (renamed f q) ≡ same_formula same p q
  same_is p q h k = same-renamed f kind apart same decides named names p q h k

  Lists-spread : (before parts after : List (Formula A)) → Lists kind before → Lists kind parts → Lists kind after → Lists kind (before ++ parts ++ after)
  Lists-spread before parts after h k l = Each-append (AtomsAre kind) (before ++ parts) after (Each-append (AtomsAre kind) before parts h k) l

  in_place_is : (before parts after : List (Formula A)) → Lists kind before → Lists kind parts → Lists kind after → Lists kind (in_place same before parts after)
  in_place_is before parts after h k l = Each-all (renamed f) (AtomsAre kind) (same_formula same) (same_formula named) same_is [] (before ++ parts ++ after) tt (Lists-spread before parts after h k l)

  in_place_renamed : (before parts after : List (Formula A)) → Lists kind before → Lists kind parts → Lists kind after
      → in_place named (R f before) (R f parts) (R f after) ≡ R f (in_place same before parts after)
  in_place_renamed before parts after h k l =
      ap (with_all (same_formula named) []) (sym (map-append (renamed f) (before ++ parts) after ∙ ap (λ (ps : List (Formula B)). ps ++ R f after) (map-append (renamed f) before parts)))
      ∙ sym (all_mapped (renamed f) (AtomsAre kind) (same_formula same) (same_formula named) same_is [] (before ++ parts ++ after) tt (Lists-spread before parts after h k l))

  and_left_renamed : (right : List (Formula A)) (l : Leftmost A) → LeftmostIs kind l → and_left named (R f right) (RL f l) ≡ option_map (map (RS f)) (and_left same right l)
  and_left_renamed right Atoms h = refl
  and_left_renamed right (Conjunction before p q after) h =
      λ i. Some (record { left = in_place_renamed before (p ∷ q ∷ []) after h.0 (h.1, (h.2, tt)) h.3 i; right = R f right } ∷ [])
  and_left_renamed right (Disjunction before p q after) h = refl

  or_left_renamed : (right : List (Formula A)) (l : Leftmost A) → LeftmostIs kind l → or_left named (R f right) (RL f l) ≡ option_map (map (RS f)) (or_left same right l)
  or_left_renamed right Atoms h = refl
  or_left_renamed right (Conjunction before p q after) h = refl
  or_left_renamed right (Disjunction before p q after) h =
      λ i. Some (record { left = in_place_renamed before (p ∷ []) after h.0 (h.1, tt) h.3 i; right = R f right } ∷ record { left = in_place_renamed before (q ∷ []) after h.0 (h.2, tt) h.3 i; right = R f right } ∷ [])

  or_right_renamed : (left : List (Formula A)) (l : Leftmost A) → LeftmostIs kind l → or_right named (R f left) (RL f l) ≡ option_map (map (RS f)) (or_right same left l)
  or_right_renamed left Atoms h = refl
  or_right_renamed left (Conjunction before p q after) h = refl
  or_right_renamed left (Disjunction before p q after) h =
      λ i. Some (record { left = R f left; right = in_place_renamed before (p ∷ q ∷ []) after h.0 (h.1, (h.2, tt)) h.3 i } ∷ [])

  and_right_renamed : (left : List (Formula A)) (l : Leftmost A) → LeftmostIs kind l → and_right named (R f left) (RL f l) ≡ option_map (map (RS f)) (and_right same left l)
  and_right_renamed left Atoms h = refl
  and_right_renamed left (Conjunction before p q after) h =
      λ i. Some (record { left = R f left; right = in_place_renamed before (p ∷ []) after h.0 (h.1, tt) h.3 i } ∷ record { left = R f left; right = in_place_renamed before (q ∷ []) after h.0 (h.2, tt) h.3 i } ∷ [])
  and_right_renamed left (Disjunction before p q after) h = refl

  and_left_is : (right : List (Formula A)) (l : Leftmost A) → LeftmostIs kind l → Lists kind right → PremisesAre kind (and_left same right l)
  and_left_is right Atoms h k = tt
  and_left_is right (Conjunction before p q after) h k = ((in_place_is before (p ∷ q ∷ []) after h.0 (h.1, (h.2, tt)) h.3, k), tt)
  and_left_is right (Disjunction before p q after) h k = tt

  or_left_is : (right : List (Formula A)) (l : Leftmost A) → LeftmostIs kind l → Lists kind right → PremisesAre kind (or_left same right l)
  or_left_is right Atoms h k = tt
  or_left_is right (Conjunction before p q after) h k = tt
  or_left_is right (Disjunction before p q after) h k = ((in_place_is before (p ∷ []) after h.0 (h.1, tt) h.3, k), ((in_place_is before (q ∷ []) after h.0 (h.2, tt) h.3, k), tt))

  or_right_is : (left : List (Formula A)) (l : Leftmost A) → LeftmostIs kind l → Lists kind left → PremisesAre kind (or_right same left l)
  or_right_is left Atoms h k = tt
  or_right_is left (Conjunction before p q after) h k = tt
  or_right_is left (Disjunction before p q after) h k = ((k, in_place_is before (p ∷ q ∷ []) after h.0 (h.1, (h.2, tt)) h.3), tt)

  and_right_is : (left : List (Formula A)) (l : Leftmost A) → LeftmostIs kind l → Lists kind left → PremisesAre kind (and_right same left l)
  and_right_is left Atoms h k = tt
  and_right_is left (Conjunction before p q after) h k = ((k, in_place_is before (p ∷ []) after h.0 (h.1, tt) h.3), ((k, in_place_is before (q ∷ []) after h.0 (h.2, tt) h.3), tt))
  and_right_is left (Disjunction before p q after) h k = tt

  shares_renamed : (left right : List (Formula A)) → Lists kind left → Lists kind right → shares_formula named (record { left = R f left; right = R f right }) ≡ shares_formula same (record { left = left; right = right })
  shares_renamed [] right h k = refl
  shares_renamed (p ∷ left) right h k = λ i. among_mapped (renamed f) (AtomsAre kind) (same_formula same) (same_formula named) same_is right p k h.0 i || shares_renamed left right h.1 k i

  premises_renamed : (r : SequentRule) (s : Sequent A) → SequentIs kind s → premises named r (RS f s) ≡ option_map (map (RS f)) (premises same r s)
  premises_renamed rule.Id s h = ap (λ (b : Bool). cond b (Some []) None) (shares_renamed s.left s.right h.0 h.1) ∙ by (shares_formula same s)
    where
      by : (b : Bool) → cond b (Some []) None ≡ option_map (map (RS f)) (cond b (Some []) None)
      by true = refl
      by false = refl
  premises_renamed rule.AndL s h = ap (and_left named (R f s.right)) (leftmost_renamed f s.left) ∙ and_left_renamed s.right (leftmost s.left) (leftmost_is kind s.left h.0)
  premises_renamed rule.OrL s h = ap (or_left named (R f s.right)) (leftmost_renamed f s.left) ∙ or_left_renamed s.right (leftmost s.left) (leftmost_is kind s.left h.0)
  premises_renamed rule.OrR s h = ap (or_right named (R f s.left)) (leftmost_renamed f s.right) ∙ or_right_renamed s.left (leftmost s.right) (leftmost_is kind s.right h.1)
  premises_renamed rule.AndR s h = ap (and_right named (R f s.left)) (leftmost_renamed f s.right) ∙ and_right_renamed s.left (leftmost s.right) (leftmost_is kind s.right h.1)

  premises_are : (r : SequentRule) (s : Sequent A) → SequentIs kind s → PremisesAre kind (premises same r s)
  premises_are rule.Id s h = by (shares_formula same s)
    where
      by : (b : Bool) → PremisesAre kind (cond b (Some []) None)
      by true = tt
      by false = tt
  premises_are rule.AndL s h = and_left_is s.right (leftmost s.left) (leftmost_is kind s.left h.0) h.1
  premises_are rule.OrL s h = or_left_is s.right (leftmost s.left) (leftmost_is kind s.left h.0) h.1
  premises_are rule.OrR s h = or_right_is s.left (leftmost s.right) (leftmost_is kind s.right h.1) h.0
  premises_are rule.AndR s h = and_right_is s.left (leftmost s.right) (leftmost_is kind s.right h.1) h.0

  first_fit_renamed : (rs : List SequentRule) (s : Sequent A) → SequentIs kind s → first_fit named rs (RS f s) ≡ option_map (RC f) (first_fit same rs s)
  first_fit_renamed [] s h = refl
  first_fit_renamed (r ∷ rs) s h = (λ i. or_else (premises_renamed r s h i) r (first_fit_renamed rs s h i)) ∙ or_else_renamed f (premises same r s) r (first_fit same rs s)

  first_fit_is : (rs : List SequentRule) (s : Sequent A) → SequentIs kind s → Sequents kind (premises_of (first_fit same rs s))
  first_fit_is [] s h = tt
  first_fit_is (r ∷ rs) s h = or_else_is kind (premises same r s) r (first_fit same rs s) (premises_are r s h) (first_fit_is rs s h)

  chosen_renamed : (s : Sequent A) → SequentIs kind s → chosen named (RS f s) ≡ option_map (RC f) (chosen same s)
  unfolding chosen
  chosen_renamed s h = first_fit_renamed (rule.Id ∷ rule.AndL ∷ rule.OrL ∷ rule.OrR ∷ rule.AndR ∷ []) s h

  chosen_is : (s : Sequent A) → SequentIs kind s → Sequents kind (premises_of (chosen same s))
  unfolding chosen
  chosen_is s h = first_fit_is (rule.Id ∷ rule.AndL ∷ rule.OrL ∷ rule.OrR ∷ rule.AndR ∷ []) s h

  premises_named : (s : Sequent A) → SequentIs kind s → premises_of (chosen named (RS f s)) ≡ map (RS f) (premises_of (chosen same s))
  premises_named s h = ap premises_of (chosen_renamed s h) ∙ premises_of_renamed f (chosen same s)

  -- ---- the search

  each_renamed : (g : Sequent A → List (Sequent A)) (h : Sequent B → List (Sequent B)) → ((t : Sequent A) → SequentIs kind t → h (RS f t) ≡ map (RS f) (g t)) → (ss : List (Sequent A)) → Sequents kind ss
      → flat_map h (map (RS f) ss) ≡ map (RS f) (flat_map g ss)
  each_renamed g h e [] k = refl
  each_renamed g h e (s ∷ ss) k = (λ i. e s k.0 i ++ each_renamed g h e ss k.1 i) ∙ sym (map-append (RS f) (g s) (flat_map g ss))

  sequents_renamed : (n : ℕ) (s : Sequent A) → SequentIs kind s → sequents_to named n (RS f s) ≡ map (RS f) (sequents_to same n s)
  unfolding sequents_to
  sequents_renamed zero s h = refl
  sequents_renamed (suc n) s h =
      ap (λ (ss : List (Sequent B)). flat_map (sequents_to named n) ss ++ RS f s ∷ []) (premises_named s h)
      ∙ ap (λ (ss : List (Sequent B)). ss ++ RS f s ∷ []) (each_renamed (sequents_to same n) (sequents_to named n) (λ t k. sequents_renamed n t k) (premises_of (chosen same s)) (chosen_is s h))
      ∙ sym (map-append (RS f) (flat_map (sequents_to same n) (premises_of (chosen same s))) (s ∷ []))

  flat_are : (g : Sequent A → List (Sequent A)) → ((t : Sequent A) → SequentIs kind t → Sequents kind (g t)) → (ss : List (Sequent A)) → Sequents kind ss → Sequents kind (flat_map g ss)
  flat_are g e [] k = tt
  flat_are g e (s ∷ ss) k = Each-append (SequentIs kind) (g s) (flat_map g ss) (e s k.0) (flat_are g e ss k.1)

  sequents_are : (n : ℕ) (s : Sequent A) → SequentIs kind s → Sequents kind (sequents_to same n s)
  unfolding sequents_to
  sequents_are zero s h = (h, tt)
  sequents_are (suc n) s h =
      Each-append (SequentIs kind) (flat_map (sequents_to same n) (premises_of (chosen same s))) (s ∷ []) (flat_are (sequents_to same n) (λ t k. sequents_are n t k) (premises_of (chosen same s)) (chosen_is s h)) (h, tt)

  first_renamed : (g : Sequent A → Option (Sequent A)) (h : Sequent B → Option (Sequent B)) → ((t : Sequent A) → SequentIs kind t → h (RS f t) ≡ option_map (RS f) (g t)) → (ss : List (Sequent A)) → Sequents kind ss
      → first_some h (map (RS f) ss) ≡ option_map (RS f) (first_some g ss)
  first_renamed g h e [] k = refl
  first_renamed g h e (s ∷ ss) k = (λ i. option_or (e s k.0 i) (first_renamed g h e ss k.1 i)) ∙ option_or_renamed f (g s) (first_some g ss)

  leaf_renamed : (n : ℕ) (s : Sequent A) → SequentIs kind s → leaf_to named n (RS f s) ≡ option_map (RS f) (leaf_to same n s)
  unfolding leaf_to
  leaf_renamed zero s h = ap (λ (o : Option (Choice B)). open_at (RS f s) o None) (chosen_renamed s h) ∙ open_at_renamed f s (chosen same s) None
  leaf_renamed (suc n) s h =
      (λ i. open_at (RS f s) (chosen_renamed s h i) ((ap (first_some (leaf_to named n)) (premises_named s h) ∙ first_renamed (leaf_to same n) (leaf_to named n) (λ t k. leaf_renamed n t k) (premises_of (chosen same s)) (chosen_is s h)) i))
      ∙ open_at_renamed f s (chosen same s) (first_some (leaf_to same n) (premises_of (chosen same s)))

  -- ---- the derivation

  lists_same : (ps qs : List (Formula A)) → Lists kind ps → Lists kind qs → pointwise (same_formula named) (R f ps) (R f qs) ≡ pointwise (same_formula same) ps qs
  lists_same [] [] h k = refl
  lists_same [] (q ∷ qs) h k = refl
  lists_same (p ∷ ps) [] h k = refl
  lists_same (p ∷ ps) (q ∷ qs) h k = λ i. same_is p q h.0 k.0 i && lists_same ps qs h.1 k.1 i

  sequents_same : (s t : Sequent A) → SequentIs kind s → SequentIs kind t → same_sequent named (RS f s) (RS f t) ≡ same_sequent same s t
  sequents_same s t h k = λ i. lists_same s.left t.left h.0 k.0 i && lists_same s.right t.right h.1 k.1 i

  numbers_renamed : (all ss : List (Sequent A)) → Sequents kind all → Sequents kind ss → map (number_among named (map (RS f) all)) (map (RS f) ss) ≡ map (number_among same all) ss
  numbers_renamed all [] h k = refl
  numbers_renamed all (s ∷ ss) h k = λ i. position_mapped (RS f) (SequentIs kind) (same_sequent same) (same_sequent named) sequents_same all s h k.0 i ∷ numbers_renamed all ss h k.1 i

  by_renamed : (all : List (Sequent A)) (s : Sequent A) (o : Option (Choice A)) → Sequents kind all → Sequents kind (premises_of o) → inference_by named (map (RS f) all) (RS f s) (option_map (RC f) o) ≡ renamed_inference f (inference_by same all s o)
  by_renamed all s None h k = refl
  by_renamed all s (Some c) h k = λ i. record { rule = c.0; conclusion = RS f s; premises = numbers_renamed all c.1 h k i }

  inference_renamed : (all : List (Sequent A)) (s : Sequent A) → Sequents kind all → SequentIs kind s → inference_in named (map (RS f) all) (RS f s) ≡ renamed_inference f (inference_in same all s)
  inference_renamed all s h k = ap (inference_by named (map (RS f) all) (RS f s)) (chosen_renamed s k) ∙ by_renamed all s (chosen same s) h (chosen_is s k)

  inferences_renamed : (all ss : List (Sequent A)) → Sequents kind all → Sequents kind ss → map (inference_in named (map (RS f) all)) (map (RS f) ss) ≡ map (renamed_inference f) (map (inference_in same all) ss)
  inferences_renamed all [] h k = refl
  inferences_renamed all (s ∷ ss) h k = λ i. inference_renamed all s h k.0 i ∷ inferences_renamed all ss h k.1 i

  module _ (p q : Formula A) (hp : AtomsAre kind p) (hq : AtomsAre kind q) where
    abbrev s : Sequent A
    s = against p q

    is : SequentIs kind s
    is = ((hp, tt), (hq, tt))

    abbrev all : List (Sequent A)
    all = without_repeats (same_sequent same) (sequents_below same s)

    below_renamed : sequents_below named (RS f s) ≡ map (RS f) (sequents_below same s)
    below_renamed = ap (λ (n : ℕ). sequents_to named n (RS f s)) (depth_renamed f s) ∙ sequents_renamed (depth s) s is

    all_renamed : without_repeats (same_sequent named) (sequents_below named (RS f s)) ≡ map (RS f) all
    all_renamed =
        ap (with_all (same_sequent named) []) below_renamed
        ∙ sym (all_mapped (RS f) (SequentIs kind) (same_sequent same) (same_sequent named) sequents_same [] (sequents_below same s) tt (sequents_are (depth s) s is))

    all_are : Sequents kind all
    all_are = Each-all (RS f) (SequentIs kind) (same_sequent same) (same_sequent named) sequents_same [] (sequents_below same s) tt (sequents_are (depth s) s is)

    pub canonical_renamed : canonical named (renamed f p) (renamed f q) ≡ map (renamed_inference f) (canonical same p q)
    canonical_renamed = ap (inferences named) all_renamed ∙ inferences_renamed all all all_are all_are

    pub open_leaf_renamed : open_leaf named (against (renamed f p) (renamed f q)) ≡ option_map (renamed_sequent f) (open_leaf same (against p q))
    open_leaf_renamed = ap (λ (n : ℕ). leaf_to named n (RS f s)) (depth_renamed f s) ∙ leaf_renamed (depth s) s is

  -- ---- right steps

  lists_equal : (ps qs : List (Formula A)) → Lists kind ps → Lists kind qs → R f ps ≡ R f qs → ps ≡ qs
  lists_equal [] [] h k e = refl
  lists_equal [] (q ∷ qs) h k e = absurd cc
  lists_equal (p ∷ ps) [] h k e = absurd cc
  lists_equal (p ∷ ps) (q ∷ qs) h k e =
      let first : renamed f p ≡ renamed f q = cc in
      let rest : R f ps ≡ R f qs = cc in
      λ i. renamed-equal f kind apart p q h.0 k.0 first i ∷ lists_equal ps qs h.1 k.1 rest i

  sequents_equal : (s t : Sequent A) → SequentIs kind s → SequentIs kind t → RS f s ≡ RS f t → s ≡ t
  sequents_equal s t h k e =
      λ i. record { left = lists_equal s.left t.left h.0 k.0 (ap (λ (u : Sequent B). u.left) e) i; right = lists_equal s.right t.right h.1 k.1 (ap (λ (u : Sequent B). u.right) e) i }

  some_same : {X : Type 0} {x y : X} → Some x ≡ Some y → x ≡ y
  some_same e = cc

  named_numbers : (cs : List (Sequent A)) (ns : List ℕ) (ps : List (Sequent A)) → Sequents kind cs → Sequents kind ps → map (slice_get (map (RS f) cs)) ns ≡ map Some (map (RS f) ps) → map (slice_get cs) ns ≡ map Some ps
  named_numbers cs [] [] h k e = refl
  named_numbers cs [] (p ∷ ps) h k e = absurd cc
  named_numbers cs (n ∷ ns) [] h k e = absurd cc
  named_numbers cs (n ∷ ns) (p ∷ ps) h k e =
      let here : slice_get (map (RS f) cs) n ≡ Some (RS f p) = cc in
      let rest : map (slice_get (map (RS f) cs)) ns ≡ map Some (map (RS f) ps) = cc in
      let got = got_mapped (RS f) cs n (RS f p) here in
      let same_one = sequents_equal got.0 p (Each-get (SequentIs kind) cs n got.0 h got.1) k.0 got.2 in
      λ i. (got.1 ∙ ap Some same_one) i ∷ named_numbers cs ns ps h k.1 rest i

  numbers_named : (cs : List (Sequent A)) (ns : List ℕ) (ps : List (Sequent A)) → map (slice_get cs) ns ≡ map Some ps → map (slice_get (map (RS f) cs)) ns ≡ map Some (map (RS f) ps)
  numbers_named cs [] [] e = refl
  numbers_named cs [] (p ∷ ps) e = absurd cc
  numbers_named cs (n ∷ ns) [] e = absurd cc
  numbers_named cs (n ∷ ns) (p ∷ ps) e =
      let here : slice_get cs n ≡ Some p = cc in
      let rest : map (slice_get cs) ns ≡ map Some ps = cc in
      λ i. (get_mapped (RS f) cs n ∙ ap (option_map (RS f)) here) i ∷ numbers_named cs ns ps rest i

  module _ (earlier : List (Inference A)) (i : Inference A) (all : StepsAre kind earlier) (one : SequentIs kind i.conclusion) where
    abbrev Named : List (Inference B)
    Named = map (renamed_inference f) earlier

    some_premises : (o : Option (List (Sequent A))) (ps : List (Sequent B)) → option_map (map (RS f)) o ≡ Some ps → PremisesAre kind o → (qs : List (Sequent A)) × (o ≡ Some qs) × (map (RS f) qs ≡ ps) × Sequents kind qs
    some_premises None ps e h = absurd cc
    some_premises (Some qs) ps e h = (qs, refl, some_same e, h)

    conclusions_are : (d : List (Inference A)) → StepsAre kind d → Sequents kind (conclusions d)
    conclusions_are [] h = tt
    conclusions_are (j ∷ d) h = (h.0, conclusions_are d h.1)

    step_unnamed : IsRightStep named Named (renamed_inference f i) → IsRightStep same earlier i
    step_unnamed right =
        let got = some_premises (premises same i.rule i.conclusion) right.0 (sym (premises_renamed i.rule i.conclusion one) ∙ right.1) (premises_are i.rule i.conclusion one) in (
          got.0,
          got.1,
          named_numbers (conclusions earlier) i.premises got.0 (conclusions_are earlier all) got.3
              (ap (λ (cs : List (Sequent B)). map (slice_get cs) i.premises) (sym (conclusions_renamed f earlier)) ∙ right.2 ∙ ap (λ (ps : List (Sequent B)). map Some ps) (sym got.2)),
        )

    step_named : IsRightStep same earlier i → IsRightStep named Named (renamed_inference f i)
    step_named right = (
      map (RS f) right.0,
      premises_renamed i.rule i.conclusion one ∙ ap (option_map (map (RS f))) right.1,
      ap (λ (cs : List (Sequent B)). map (slice_get cs) i.premises) (conclusions_renamed f earlier) ∙ numbers_named (conclusions earlier) i.premises right.0 right.2,
    )

  abbrev RI : Inference A → Inference B
  RI = renamed_inference f

  named_right : (d : List (Inference A)) → StepsAre kind d → IsRight named (map RI d) → IsRight same d
  named_right d h right k i e =
      step_unnamed (take k d) i (Each-take (λ j. SequentIs kind j.conclusion) k d h) (Each-get (λ j. SequentIs kind j.conclusion) d k i h e)
      (subst (λ (es : List (Inference B)). IsRightStep named es (RI i)) (take_mapped RI k d) (right k (RI i) (get_mapped RI d k ∙ ap (option_map RI) e)))

  right_named : (d : List (Inference A)) → StepsAre kind d → IsRight same d → IsRight named (map RI d)
  right_named d h right k i e =
      let got = got_mapped RI d k i e in
      subst (IsRightStep named (take k (map RI d))) got.2
      (subst (λ (es : List (Inference B)). IsRightStep named es (RI got.0)) (sym (take_mapped RI k d))
      (step_named (take k d) got.0 (Each-take (λ j. SequentIs kind j.conclusion) k d h) (Each-get (λ j. SequentIs kind j.conclusion) d k got.0 h got.1) (right k got.0 got.1)))

pub law_of_renamed_derivations : (A B : Type 0) → LawOfRenamedDerivations A B
law_of_renamed_derivations A B = record {
  canonical_kept = λ f kind apart same decides named names p q h k. canonical_renamed f kind apart same decides named names p q h k;
  leaf_kept = λ f kind apart same decides named names p q h k. open_leaf_renamed f kind apart same decides named names p q h k;
  right_kept = λ f kind apart same decides named names d h. (named_right f kind apart same decides named names d h, right_named f kind apart same decides named names d h);
}
