-- The test of entailment tells truth under every valuation.
use Rattle.std.proofs.Common.{◌≡◌, Bool, true, false, not, ◌&&◌, ◌||◌, ◌⊎◌, List, [], ◌∷◌, ◌++◌, map, cond, refl, sym, ap, ◌∙◌, inl, inr, true≢false}
use Rattle.std.specs.Prelude.{filter, if◌then◌else◌}
use Rattle.std.specs.List.{list_all}
use Rattle.std.proofs.lemmas.List.Folds.{list_any-append}
use Rattle.cx_prop.specs.Formula.{Formula, Atom, And, Or, IsEquality, AtomsAre}
use Rattle.cx_prop.specs.Truth.{Valuation, truth, among, Entails}
use Rattle.cx_numbered.proofs.Numbered.{or_cases, or_right, or_left}
use Rattle.cx_prop.proofs.Tests.{and_left, and_right, and_both, both_ways}
use Rattle.cx_questions.specs.Entailment.{atoms, distinct, choices, entails, LawOfEntailment}

-- ---- every choice passes a test, so the elements that a valuation makes true do

module _ {A : Type 0} where
  all_of_append : (t : List A → Bool) (cs ds : List (List A)) → list_all t (cs ++ ds) ≡ true → (list_all t cs ≡ true) × (list_all t ds ≡ true)
  all_of_append t [] ds h = (refl, h)
  all_of_append t (c ∷ cs) ds h =
      let rest = all_of_append t cs ds (and_right (t c) (list_all t (cs ++ ds)) h) in
      (and_both (t c) (list_all t cs) (and_left (t c) (list_all t (cs ++ ds)) h) (rest.0), rest.1)

  all_of_map : (t : List A → Bool) (a : A) (cs : List (List A)) → list_all t (map (λ c. a ∷ c) cs) ≡ true → list_all (λ c. t (a ∷ c)) cs ≡ true
  all_of_map t a [] h = refl
  all_of_map t a (c ∷ cs) h =
      and_both (t (a ∷ c)) (list_all (λ d. t (a ∷ d)) cs) (and_left (t (a ∷ c)) (list_all t (map (λ d. a ∷ d) cs)) h) (all_of_map t a cs (and_right (t (a ∷ c)) (list_all t (map (λ d. a ∷ d) cs)) h))

  chosen_passes : (v : Valuation A) (t : List A → Bool) (xs : List A) → list_all t (choices xs) ≡ true → t (filter v xs) ≡ true
  chosen_passes v t [] h = and_left (t []) true h
  chosen_passes v t (a ∷ xs) h =
      let both = all_of_append t (choices xs) (map (λ c. a ∷ c) (choices xs)) h in
      pick (v a) (chosen_passes v (λ c. t (a ∷ c)) xs (all_of_map t a (choices xs) (both.1))) (chosen_passes v t xs (both.0))
    where
      pick : (b : Bool) → t (a ∷ filter v xs) ≡ true → t (filter v xs) ≡ true → t (cond b (a ∷ filter v xs) (filter v xs)) ≡ true
      pick true h k = h
      pick false h k = k

  every_choice : (t : List A → Bool) → ((c : List A) → t c ≡ true) → (cs : List (List A)) → list_all t cs ≡ true
  every_choice t h [] = refl
  every_choice t h (c ∷ cs) = and_both (t c) (list_all t cs) (h c) (every_choice t h cs)

-- ---- the atoms of formulas among the distinct ones

module _ {A : Type 0} (same : A → A → Bool) (decides : IsEquality same) where
  among_one : (a x : A) (b : Bool) (xs : List A) → same a x ≡ true → among same xs x ≡ b → b ≡ true → among same xs a ≡ true
  among_one a x b xs e m h = ap (λ y. among same xs y) ((decides a x).0 e) ∙ m ∙ h

  distinct_has : (xs : List A) (a : A) → among same xs a ≡ true → among same (distinct same xs) a ≡ true
  distinct_has [] a h = h
  distinct_has (x ∷ xs) a h = split (among same xs x) refl (λ k. distinct_has xs a k) (or_cases (same a x) (among same xs a) h)
    where
      split : (b : Bool) → among same xs x ≡ b → (among same xs a ≡ true → among same (distinct same xs) a ≡ true) → (same a x ≡ true) ⊎ (among same xs a ≡ true)
          → among same (if b then distinct same xs else x ∷ distinct same xs) a ≡ true
      split true m go (inl e) = go (among_one a x true xs e m refl)
      split true m go (inr k) = go k
      split false m go (inl e) = or_left (same a x) (among same (distinct same xs) a) e
      split false m go (inr k) = or_right (same a x) (among same (distinct same xs) a) (go k)

  first_has : (xs ys : List A) (a : A) → among same xs a ≡ true → among same (xs ++ ys) a ≡ true
  first_has xs ys a h = list_any-append (same a) xs ys ∙ or_left (among same xs a) (among same ys a) h

  second_has : (xs ys : List A) (a : A) → among same ys a ≡ true → among same (xs ++ ys) a ≡ true
  second_has xs ys a h = list_any-append (same a) xs ys ∙ or_right (among same xs a) (among same ys a) h

  -- the atoms of p are among xs, where what is among its atoms is among xs
  atoms_among : (p : Formula A) (xs : List A) → ((a : A) → among same (atoms p) a ≡ true → among same xs a ≡ true) → AtomsAre (among same xs) p
  atoms_among (Atom a) xs h = h a (or_left (same a a) false ((decides a a).1 refl))
  atoms_among (And p q) xs h =
      (atoms_among p xs (λ a k. h a (first_has (atoms p) (atoms q) a k)), atoms_among q xs (λ a k. h a (second_has (atoms p) (atoms q) a k)))
  atoms_among (Or p q) xs h =
      (atoms_among p xs (λ a k. h a (first_has (atoms p) (atoms q) a k)), atoms_among q xs (λ a k. h a (second_has (atoms p) (atoms q) a k)))

  -- ---- truth under a valuation is truth under the elements of the list that it makes true

  module _ (v : Valuation A) where
    kept_is_true : (xs : List A) (a : A) → among same (filter v xs) a ≡ true → v a ≡ true
    kept_is_true [] a h = absurd (true≢false (sym h))
    kept_is_true (x ∷ xs) a h = split (v x) refl (λ k. kept_is_true xs a k) h
      where
        split : (b : Bool) → v x ≡ b → (among same (filter v xs) a ≡ true → v a ≡ true) → among same (cond b (x ∷ filter v xs) (filter v xs)) a ≡ true → v a ≡ true
        split true m go h = elim (or_cases (same a x) (among same (filter v xs) a) h) [
          | inl e ↦ ap v ((decides a x).0 e) ∙ m
          | inr k ↦ go k
        ]
        split false m go h = go h

    true_is_kept : (xs : List A) (a : A) → v a ≡ true → among same xs a ≡ true → among same (filter v xs) a ≡ true
    true_is_kept [] a t h = h
    true_is_kept (x ∷ xs) a t h = split (v x) refl (λ k. true_is_kept xs a t k) (or_cases (same a x) (among same xs a) h)
      where
        split : (b : Bool) → v x ≡ b → (among same xs a ≡ true → among same (filter v xs) a ≡ true) → (same a x ≡ true) ⊎ (among same xs a ≡ true)
            → among same (cond b (x ∷ filter v xs) (filter v xs)) a ≡ true
        split true m go (inl e) = or_left (same a x) (among same (filter v xs) a) e
        split true m go (inr k) = or_right (same a x) (among same (filter v xs) a) (go k)
        split false m go (inl e) = absurd (true≢false (sym t ∙ ap v ((decides a x).0 e) ∙ m))
        split false m go (inr k) = go k

    truth_of_kept : (xs : List A) (p : Formula A) → AtomsAre (among same xs) p → truth (among same (filter v xs)) p ≡ truth v p
    truth_of_kept xs (Atom a) h = both_ways (among same (filter v xs) a) (v a) (kept_is_true xs a) (λ t. true_is_kept xs a t h)
    truth_of_kept xs (And p q) h = λ i. truth_of_kept xs p (h.0) i && truth_of_kept xs q (h.1) i
    truth_of_kept xs (Or p q) h = λ i. truth_of_kept xs p (h.0) i || truth_of_kept xs q (h.1) i

  -- ---- the law

  implied : (a b : Bool) → (not a || b) ≡ true → a ≡ true → b ≡ true
  implied true b h k = h
  implied false b h k = absurd (true≢false (sym k))

  implies : (a b : Bool) → (a ≡ true → b ≡ true) → (not a || b) ≡ true
  implies true b h = h refl
  implies false b h = refl

  module _ (p q : Formula A) where
    all_atoms : List A
    all_atoms = distinct same (atoms p ++ atoms q)

    entails-Entails : entails same p q ≡ true → Entails p q
    unfolding all_atoms
    entails-Entails h v t =
        sym (truth_of_kept v all_atoms q (atoms_among q all_atoms (λ a k. distinct_has (atoms p ++ atoms q) a (second_has (atoms p) (atoms q) a k))))
        ∙ implied (truth (among same (filter v all_atoms)) p) (truth (among same (filter v all_atoms)) q)
        (chosen_passes v (λ c. not (truth (among same c) p) || truth (among same c) q) all_atoms h)
        (truth_of_kept v all_atoms p (atoms_among p all_atoms (λ a k. distinct_has (atoms p ++ atoms q) a (first_has (atoms p) (atoms q) a k))) ∙ t)

    Entails-entails : Entails p q → entails same p q ≡ true
    Entails-entails e =
        every_choice (λ c. not (truth (among same c) p) || truth (among same c) q) (λ c. implies (truth (among same c) p) (truth (among same c) q) (e (among same c))) (choices (distinct same (atoms p ++ atoms q)))

pub law_of_entailment : (A : Type 0) → LawOfEntailment A
law_of_entailment A same decides p q = (entails-Entails same decides p q, Entails-entails same decides p q)
