-- Deduction gives the least assignment that fits.
use Rattle.std.proofs.Common.{◌≡◌, ◌<◌, ◌+◌, ℕ, zero, suc, Bool, true, false, ◌==◌, List, [], ◌∷◌, ◌++◌, length, map, refl, sym, ap, subst, ◌∙◌, true≢false, arith}
use Rattle.std.specs.Cmp.{unsigned_Decides}
use Rattle.std.specs.Prelude.{Option, Some, None, slice_get, flat_map, if◌then◌else◌, option_and_then}
use Rattle.std.specs.List.{range_with_len}
use Rattle.std.specs.Option.{option_or, option_map_or}
use Rattle.std.proofs.lemmas.Option.{slice_get_within}
use Rattle.cx_prop.proofs.Tests.{and_left, and_right, and_both}
use Rattle.cx_term.proofs.Trees.{terms_decided}
use Rattle.cx_term.specs.Same.{same_term}
use Rattle.cx_term.specs.Term.{Term, Arguments, param, inst, const, ref, argument}
use Rattle.cx_questions.specs.Deduction.{Assignment, assigned_to, is_assigned, is_for_position, fits, all_fit, pairs_fit, facing, all_facing, first, choice, choices, deduced}
use Rattle.cx_questions.specs.Program.{Parametric}
use Rattle.cx_question_laws.specs.Algorithms.{Fits, IsWithin, LawOfDeduction}

-- a property of each of a list
abbrev Each : {A : Type 0} → (A → Type 0) → List A → Type 0
Each P [] = Unit {0}
Each P (x ∷ xs) = P x × Each P xs

each_append : {A : Type 0} (P : A → Type 0) (xs ys : List A) → Each P xs → Each P ys → Each P (xs ++ ys)
each_append P [] ys h k = k
each_append P (x ∷ xs) ys h k = (h.0, each_append P xs ys (h.1) k)

each_left : {A : Type 0} (P : A → Type 0) (xs ys : List A) → Each P (xs ++ ys) → Each P xs
each_left P [] ys h = tt
each_left P (x ∷ xs) ys h = (h.0, each_left P xs ys (h.1))

each_right : {A : Type 0} (P : A → Type 0) (xs ys : List A) → Each P (xs ++ ys) → Each P ys
each_right P [] ys h = h
each_right P (x ∷ xs) ys h = each_right P xs ys (h.1)

each_of_all : {A : Type 0} (P : A → Type 0) → ((x : A) → P x) → (xs : List A) → Each P xs
each_of_all P h [] = tt
each_of_all P h (x ∷ xs) = (h x, each_of_all P h xs)

-- ---- what is assigned

assigned_is : (s : Assignment) (i : ℕ) (t : Term) → is_assigned s i t ≡ true → assigned_to s i ≡ Some t
assigned_is s i t h = go (assigned_to s i) h
  where
    go : (o : Option Term) → option_map_or (same_term t) o false ≡ true → o ≡ Some t
    go None h = absurd (true≢false (sym h))
    go (Some v) h = ap Some (sym ((terms_decided t v).0 h))

is_assigned_of : (s : Assignment) (i : ℕ) (t : Term) → assigned_to s i ≡ Some t → is_assigned s i t ≡ true
is_assigned_of s i t e = ap (λ (o : Option Term). option_map_or (same_term t) o false) e ∙ (terms_decided t t).1 refl

kind_within : (ks : List Parametric) (i : ℕ) (t : Term) → is_for_position ks i t ≡ true → i < length ks
kind_within ks i t h = go (slice_get ks i) refl h
  where
    go : (o : Option Parametric) → slice_get ks i ≡ o → option_map_or (λ k. Rattle.cx_questions.specs.Deduction.is_for k t) o false ≡ true → i < length ks
    go None e h = absurd (true≢false (sym h))
    go (Some k) e h = slice_get_within ks i k e

-- the choice at a position of a range
nth_of_range : {A : Type 0} (f : ℕ → A) (a n i : ℕ) → i < n → slice_get (map f (range_with_len a n)) i ≡ Some (f (a + i))
nth_of_range f a zero i h = absurd (none h)
  where
    none : i < 0 → ⊥
    none h = omega arith
nth_of_range f a (suc n) zero h = ap (λ (k : ℕ). Some (f k)) (omega arith)
nth_of_range f a (suc n) (suc i) h = nth_of_range f (a + 1) n i (omega arith) ∙ ap (λ (k : ℕ). Some (f k)) (omega arith)

none_of_range : {A : Type 0} (f : ℕ → A) (a n i : ℕ) (x : A) → slice_get (map f (range_with_len a n)) i ≡ Some x → i < n
none_of_range {A = A} f a zero i x h = absurd (nothing_there h)
  where
    is_there : Option A → Bool
    is_there None = false
    is_there (Some y) = true

    nothing_there : None ≡ Some x → ⊥
    nothing_there h = true≢false (sym (ap is_there h))
none_of_range {A = A} f a (suc n) zero x h = omega arith
none_of_range {A = A} f a (suc n) (suc i) x h = let j = none_of_range f (a + 1) n i x h in omega (arith, j)

-- ---- what fits assigns what it faces

module _ (ks : List Parametric) (r : Assignment) where
  assigned_here : (i j : ℕ) (t : Term) → assigned_to r j ≡ Some t → (b : Bool) → (i == j) ≡ b → Each (λ v. assigned_to r i ≡ Some v) (if b then t ∷ [] else [])
  assigned_here i j t e true h = (ap (λ (k : ℕ). assigned_to r k) ((unsigned_Decides i j).0 h) ∙ e, tt)
  assigned_here i j t e false h = tt

  mutual
    facing_assigned : (i : ℕ) (t u : Term) → fits ks r t u ≡ true → Each (λ v. assigned_to r i ≡ Some v) (facing i t u)
    facing_assigned i (param j) u h = assigned_here i j u (assigned_is r j u (and_right (is_for_position ks j u) (is_assigned r j u) h)) (i == j) refl
    facing_assigned i (inst d xs) (inst e ys) h = all_facing_assigned i xs ys (and_right (d.0 == e.0) (all_fit ks r xs ys) h)
    facing_assigned i (const t) (const u) h = facing_assigned i t u h
    facing_assigned i (ref t) (ref u) h = facing_assigned i t u h
    facing_assigned i t u h = tt

    all_facing_assigned : (i : ℕ) (xs ys : Arguments) → all_fit ks r xs ys ≡ true → Each (λ v. assigned_to r i ≡ Some v) (all_facing i xs ys)
    all_facing_assigned i (argument t xs) (argument u ys) h =
        each_append (λ v. assigned_to r i ≡ Some v) (facing i t u) (all_facing i xs ys) (facing_assigned i t u (and_left (fits ks r t u) (all_fit ks r xs ys) h)) (all_facing_assigned i xs ys (and_right (fits ks r t u) (all_fit ks r xs ys) h))
    all_facing_assigned i xs ys h = tt

  pairs_assigned : (i : ℕ) (pairs : List (Term × Term)) → pairs_fit ks r pairs ≡ true → Each (λ v. assigned_to r i ≡ Some v) (flat_map (λ p. facing i p.0 p.1) pairs)
  pairs_assigned i [] h = tt
  pairs_assigned i (p ∷ pairs) h =
      each_append (λ v. assigned_to r i ≡ Some v) (facing i (p.0) (p.1)) (flat_map (λ q. facing i q.0 q.1) pairs)
      (facing_assigned i (p.0) (p.1) (and_left (fits ks r p.0 p.1) (pairs_fit ks r pairs) h)) (pairs_assigned i pairs (and_right (fits ks r p.0 p.1) (pairs_fit ks r pairs) h))

  -- ---- another assignment, which says the same of what is faced, fits too

  module _ (s : Assignment) where
    Moves : ℕ → Term → Type 0
    Moves i v = is_for_position ks i v ≡ true → is_assigned r i v ≡ true → is_assigned s i v ≡ true

    moved_here : (j : ℕ) (t : Term) (b : Bool) → (j == j) ≡ b → Each (Moves j) (if b then t ∷ [] else []) → Moves j t
    moved_here j t true h m = m.0
    moved_here j t false h m = absurd (true≢false (sym ((unsigned_Decides j j).1 refl) ∙ h))

    mutual
      unfolding Moves

      fits_moves : (t u : Term) → ((i : ℕ) → Each (Moves i) (facing i t u)) → fits ks r t u ≡ true → fits ks s t u ≡ true
      fits_moves (param j) u m h =
          and_both (is_for_position ks j u) (is_assigned s j u) (and_left (is_for_position ks j u) (is_assigned r j u) h)
          (moved_here j u (j == j) refl (m j) (and_left (is_for_position ks j u) (is_assigned r j u) h) (and_right (is_for_position ks j u) (is_assigned r j u) h))
      fits_moves (inst d xs) (inst e ys) m h =
          and_both (d.0 == e.0) (all_fit ks s xs ys) (and_left (d.0 == e.0) (all_fit ks r xs ys) h) (all_fit_moves xs ys m (and_right (d.0 == e.0) (all_fit ks r xs ys) h))
      fits_moves (const t) (const u) m h = fits_moves t u m h
      fits_moves (ref t) (ref u) m h = fits_moves t u m h
      fits_moves t u m h = h

      all_fit_moves : (xs ys : Arguments) → ((i : ℕ) → Each (Moves i) (all_facing i xs ys)) → all_fit ks r xs ys ≡ true → all_fit ks s xs ys ≡ true
      all_fit_moves (argument t xs) (argument u ys) m h =
          and_both (fits ks s t u) (all_fit ks s xs ys)
          (fits_moves t u (λ i. each_left (Moves i) (facing i t u) (all_facing i xs ys) (m i)) (and_left (fits ks r t u) (all_fit ks r xs ys) h))
          (all_fit_moves xs ys (λ i. each_right (Moves i) (facing i t u) (all_facing i xs ys) (m i)) (and_right (fits ks r t u) (all_fit ks r xs ys) h))
      all_fit_moves xs ys m h = h

    pairs_fit_moves : (pairs : List (Term × Term)) → ((i : ℕ) → Each (Moves i) (flat_map (λ p. facing i p.0 p.1) pairs)) → pairs_fit ks r pairs ≡ true → pairs_fit ks s pairs ≡ true
    pairs_fit_moves [] m h = refl
    pairs_fit_moves (p ∷ pairs) m h =
        and_both (fits ks s p.0 p.1) (pairs_fit ks s pairs)
        (fits_moves (p.0) (p.1) (λ i. each_left (Moves i) (facing i p.0 p.1) (flat_map (λ q. facing i q.0 q.1) pairs) (m i)) (and_left (fits ks r p.0 p.1) (pairs_fit ks r pairs) h))
        (pairs_fit_moves pairs (λ i. each_right (Moves i) (facing i p.0 p.1) (flat_map (λ q. facing i q.0 q.1) pairs) (m i)) (and_right (fits ks r p.0 p.1) (pairs_fit ks r pairs) h))

-- ---- the choices

some_is : {A : Type 0} (x y : A) → Some x ≡ Some y → x ≡ y
some_is {A = A} x y e = ap or_x e
  where
    or_x : Option A → A
    or_x None = x
    or_x (Some z) = z

none_is_not : {A : Type 0} (x : A) → None ≡ Some x → ⊥
none_is_not {A = A} x e = true≢false (sym (ap is_there e))
  where
    is_there : Option A → Bool
    is_there None = false
    is_there (Some y) = true

module _ (ks : List Parametric) (given : List Term) (pairs : List (Term × Term)) where
  made : Assignment
  made = choices ks given pairs

  made_at : (i : ℕ) → i < length ks → assigned_to made i ≡ choice given pairs i
  unfolding made
  made_at i h = ap (λ (o : Option (Option Term)). option_and_then (λ t. t) o) (nth_of_range (choice given pairs) 0 (length ks) i h) ∙ ap (choice given pairs) (omega arith)

  made_within : (i : ℕ) (t : Term) → assigned_to made i ≡ Some t → i < length ks
  unfolding made
  made_within i t h = go (slice_get (choices ks given pairs) i) refl h
    where
      go : (o : Option (Option Term)) → slice_get (choices ks given pairs) i ≡ o → option_and_then (λ t. t) o ≡ Some t → i < length ks
      go None e h = absurd (none_is_not t h)
      go (Some x) e h = none_of_range (choice given pairs) 0 (length ks) i x e

  made_extends : (i : ℕ) (t : Term) → i < length ks → slice_get given i ≡ Some t → assigned_to made i ≡ Some t
  made_extends i t h e = made_at i h ∙ ap (λ (o : Option Term). option_or o (first (flat_map (λ p. facing i p.0 p.1) pairs))) e

  module _ (r : Assignment) (f : Fits ks given pairs r) where
    -- what is chosen, whoever fits assigns
    chosen_is : (i : ℕ) (t : Term) → i < length ks → choice given pairs i ≡ Some t → assigned_to r i ≡ Some t
    chosen_is i t h e = go (slice_get given i) refl e
      where
        first_is : (xs : List Term) → Each (λ v. assigned_to r i ≡ Some v) xs → first xs ≡ Some t → assigned_to r i ≡ Some t
        first_is [] a e = absurd (none_is_not t e)
        first_is (x ∷ xs) a e = a.0 ∙ e

        go : (o : Option Term) → slice_get given i ≡ o → option_or o (first (flat_map (λ p. facing i p.0 p.1) pairs)) ≡ Some t → assigned_to r i ≡ Some t
        go None g e = first_is (flat_map (λ p. facing i p.0 p.1) pairs) (pairs_assigned ks r i pairs f.fit) e
        go (Some x) g e = f.extends i x h g ∙ e

    within : IsWithin made r
    within i t e = let h = made_within i t e in chosen_is i t h (sym (made_at i h) ∙ e)

    -- where something is faced, something is chosen
    is_chosen : (i : ℕ) (xs : List Term) → flat_map (λ p. facing i p.0 p.1) pairs ≡ xs → (v : Term) → i < length ks → assigned_to r i ≡ Some v → Each (λ x. choice given pairs i ≡ Some v) xs
    is_chosen i xs e v h a = each_with xs (λ x rest g. go x (choice given pairs i) refl (sym (ap (λ (ys : List Term). option_or (slice_get given i) (first ys)) (e ∙ g))))
      where
        each_with : (ys : List Term) → ((x : Term) (rest : List Term) → ys ≡ x ∷ rest → choice given pairs i ≡ Some v) → Each (λ x. choice given pairs i ≡ Some v) ys
        each_with [] k = tt
        each_with (x ∷ rest) k = each_of_all (λ y. choice given pairs i ≡ Some v) (λ y. k x rest refl) (x ∷ rest)

        there : (o : Option Term) (x : Term) → option_or o (Some x) ≡ None → ⊥
        there None x q = none_is_not x (sym q)
        there (Some y) x q = none_is_not y (sym q)

        go : (x : Term) (o : Option Term) → choice given pairs i ≡ o → option_or (slice_get given i) (Some x) ≡ choice given pairs i → choice given pairs i ≡ Some v
        go x None q p = absurd (there (slice_get given i) x (p ∙ q))
        go x (Some c) q p = q ∙ sym (chosen_is i c h q) ∙ a

    moves : (i : ℕ) → Each (Moves ks r made i) (flat_map (λ p. facing i p.0 p.1) pairs)
    unfolding Moves
    moves i = all_move (flat_map (λ p. facing i p.0 p.1) pairs) refl
      where
        all_move : (xs : List Term) → flat_map (λ p. facing i p.0 p.1) pairs ≡ xs → Each (λ v. is_for_position ks i v ≡ true → is_assigned r i v ≡ true → is_assigned made i v ≡ true) xs
        all_move [] e = tt
        all_move (x ∷ xs) e =
            each_of_all (λ v. is_for_position ks i v ≡ true → is_assigned r i v ≡ true → is_assigned made i v ≡ true)
            (λ v k a. let h = kind_within ks i v k in is_assigned_of made i v (made_at i h ∙ (is_chosen i (x ∷ xs) e v h (assigned_is r i v a)).0)) (x ∷ xs)

    made_fits : pairs_fit ks made pairs ≡ true
    made_fits = pairs_fit_moves ks r made pairs moves f.fit

  by_test : (b : Bool) (s : Assignment) → pairs_fit ks made pairs ≡ b → (if b then Some made else None) ≡ Some s → (b ≡ true) × (made ≡ s)
  by_test true s h e = (refl, some_is made s e)
  by_test false s h e = absurd (none_is_not s e)

  test_fails : (b : Bool) → (if b then Some made else None) ≡ None → b ≡ false
  test_fails true e = absurd (none_is_not made (sym e))
  test_fails false e = refl

  found : (s : Assignment) → deduced ks given pairs ≡ Some s → (pairs_fit ks made pairs ≡ true) × (made ≡ s)
  unfolding made
  found s e = by_test (pairs_fit ks (choices ks given pairs) pairs) s refl e

  not_found : deduced ks given pairs ≡ None → pairs_fit ks made pairs ≡ false
  unfolding made
  not_found e = test_fails (pairs_fit ks (choices ks given pairs) pairs) e

pub law_of_deduction : LawOfDeduction
law_of_deduction = record {
  fits = λ ks given pairs s e.
      let p = found ks given pairs s e in
      subst (Fits ks given pairs) (p.1) (record { extends = made_extends ks given pairs; fit = p.0 });
  least = λ ks given pairs s r e f.
      let p = found ks given pairs s e in
      subst (λ (x : Assignment). IsWithin x r) (p.1) (within ks given pairs r f);
  none = λ ks given pairs r e f. true≢false (sym (made_fits ks given pairs r f) ∙ not_found ks given pairs e);
}
