-- Lemmas on numbered lists. Other crates may cite them.
use Rattle.std.proofs.Common.{◌≡◌, ℕ, zero, suc, ◌+◌, ◌<◌, ◌≤◌, Bool, true, false, ◌||◌, cond, List, [], ◌∷◌, ◌++◌, map, length, get_or, take, Some, refl, sym, ap, subst, ◌∙◌, ◌⊎◌, inl, inr, true≢false, length-append, arith}
use Rattle.std.specs.Prelude.{slice_get, fold}
use Rattle.std.proofs.lemmas.List.{map-append, take_more, length-map}
use Rattle.std.proofs.lemmas.List.Sums.{fold-append}
use Rattle.cx_numbered.specs.Numbered.{DecidesEquality, HasEachOnce, IsNumberOf, Grows, is_among, put, put_all}

pub either : (b : Bool) → (b ≡ true) ⊎ (b ≡ false)
either true = inl refl
either false = inr refl

pub or_cases : (a b : Bool) → (a || b) ≡ true → (a ≡ true) ⊎ (b ≡ true)
or_cases true b h = inl refl
or_cases false b h = inr h

pub or_left : (a b : Bool) → a ≡ true → (a || b) ≡ true
or_left true b h = refl
or_left false b h = absurd (true≢false (sym h))

pub or_right : (a b : Bool) → b ≡ true → (a || b) ≡ true
or_right true b h = refl
or_right false b h = h

-- ---- items by their numbers

module _ {A : Type 0} where
  pub get_below : (xs : List A) (i : ℕ) (x : A) → slice_get xs i ≡ Some x → i < length xs
  get_below [] i x h = absurd cc
  get_below (y ∷ xs) zero x h = omega arith
  get_below (y ∷ xs) (suc i) x h = omega (arith, get_below xs i x h)

  pub get_or_is : (xs : List A) (i : ℕ) (x d : A) → slice_get xs i ≡ Some x → get_or xs i d ≡ x
  get_or_is [] i x d h = absurd cc
  get_or_is (y ∷ xs) zero x d h = cc
  get_or_is (y ∷ xs) (suc i) x d h = get_or_is xs i x d h

  pub get_is : (xs : List A) (i : ℕ) (d : A) → i < length xs → slice_get xs i ≡ Some (get_or xs i d)
  get_is [] i d h = absurd (omega arith)
  get_is (y ∷ xs) zero d h = refl
  get_is (y ∷ xs) (suc i) d h = get_is xs i d (omega arith)

  pub get_front : (xs ys : List A) (i : ℕ) (x : A) → slice_get xs i ≡ Some x → slice_get (xs ++ ys) i ≡ Some x
  get_front [] ys i x h = absurd cc
  get_front (y ∷ xs) ys zero x h = h
  get_front (y ∷ xs) ys (suc i) x h = get_front xs ys i x h

  pub get_last : (xs : List A) (y : A) → slice_get (xs ++ y ∷ []) (length xs) ≡ Some y
  get_last [] y = refl
  get_last (x ∷ xs) y = get_last xs y

  pub get_push_cases : (xs : List A) (y : A) (i : ℕ) (x : A) → slice_get (xs ++ y ∷ []) i ≡ Some x → (slice_get xs i ≡ Some x) ⊎ ((i ≡ length xs) × (x ≡ y))
  get_push_cases [] y zero x h = inr (refl, cc)
  get_push_cases [] y (suc i) x h = absurd cc
  get_push_cases (z ∷ xs) y zero x h = inl h
  get_push_cases (z ∷ xs) y (suc i) x h =
      elim (get_push_cases xs y i x h) [ inl k ↦ inl k | inr k ↦ inr (ap suc k.0, k.1) ]

  pub get_or_front : (xs ys : List A) (i : ℕ) (d : A) → i < length xs → get_or (xs ++ ys) i d ≡ get_or xs i d
  get_or_front [] ys i d h = absurd (omega arith)
  get_or_front (x ∷ xs) ys zero d h = refl
  get_or_front (x ∷ xs) ys (suc i) d h = get_or_front xs ys i d (omega arith)

  pub get_or_last : (xs : List A) (y d : A) → get_or (xs ++ y ∷ []) (length xs) d ≡ y
  get_or_last [] y d = refl
  get_or_last (x ∷ xs) y d = get_or_last xs y d

  pub get_or_push_cases : (xs : List A) (y : A) (i : ℕ) → i < length (xs ++ y ∷ []) → (i < length xs) ⊎ (i ≡ length xs)
  get_or_push_cases xs y zero h = by_length xs
    where
      by_length : (xs : List A) → (0 < length xs) ⊎ (0 ≡ length xs)
      by_length [] = inr refl
      by_length (x ∷ xs) = inl (omega arith)
  get_or_push_cases [] y (suc i) h = absurd (omega arith)
  get_or_push_cases (x ∷ xs) y (suc i) h =
      elim (get_or_push_cases xs y i (omega arith)) [ inl k ↦ inl (omega (arith, k)) | inr k ↦ inr (ap suc k) ]

  -- ---- growth

  pub grows_self : (xs : List A) → Grows xs xs
  grows_self xs = record { longer = omega arith; same = λ i d h. refl }

  pub grows_through : (xs ys zs : List A) → Grows xs ys → Grows ys zs → Grows xs zs
  grows_through xs ys zs g h = record {
    longer = omega (arith, g.longer, h.longer);
    same = λ i d k. h.same i d (omega (arith, k, g.longer)) ∙ g.same i d k;
  }

  same_items : (xs ys : List A) → length xs ≡ length ys → ((i : ℕ) (d : A) → i < length xs → get_or ys i d ≡ get_or xs i d) → xs ≡ ys
  same_items [] [] l h = refl
  same_items [] (y ∷ ys) l h = absurd (omega (arith, l))
  same_items (x ∷ xs) [] l h = absurd (omega (arith, l))
  same_items (x ∷ xs) (y ∷ ys) l h =
      let first : y ≡ x = h 0 x (omega arith) in
      let rest = same_items xs ys (omega (arith, l)) (λ i d k. h (suc i) d (omega (arith, k))) in
      λ i. sym first i ∷ rest i

  -- antisymmetric: lists that have grown from one another are one
  pub grows_both : (xs ys : List A) → Grows xs ys → Grows ys xs → xs ≡ ys
  grows_both xs ys g h = same_items xs ys (omega (arith, g.longer, h.longer)) g.same

  pub grows_append : (xs ys : List A) → Grows xs (xs ++ ys)
  grows_append xs ys = record { longer = omega (arith, length-append xs ys); same = λ i d h. get_or_front xs ys i d h }

  pub grows_get : (old new : List A) (i : ℕ) (x : A) → Grows old new → slice_get old i ≡ Some x → slice_get new i ≡ Some x
  grows_get old new i x g h =
      let below = get_below old i x h in
      get_is new i x (omega (arith, below, g.longer)) ∙ ap Some (g.same i x below ∙ get_or_is old i x x h)

  pub grows_from_get : (old new : List A) → length old ≤ length new → ((i : ℕ) (x : A) → slice_get old i ≡ Some x → slice_get new i ≡ Some x) → Grows old new
  grows_from_get old new l f = record { longer = l; same = λ i d h. get_or_is new i (get_or old i d) d (f i (get_or old i d) (get_is old i d h)) }

  -- what a number stands for is kept, and where the new list has each item once, so is whose number it is
  pub number_kept : (old new : List A) (i : ℕ) (x : A) → Grows old new → HasEachOnce new → IsNumberOf old i x → IsNumberOf new i x
  number_kept old new i x g once n =
      let has : i < length new = omega (arith, n.has, g.longer) in
      let at : (d : A) → get_or new i d ≡ x = λ d. g.same i d n.has ∙ n.at d in
      record { has = has; at = at; alone = λ j d h e. once j i d h has (e ∙ sym (at d)) }

  -- ---- each item once

  pub once_get : (xs : List A) → HasEachOnce xs → (i j : ℕ) (x : A) → slice_get xs i ≡ Some x → slice_get xs j ≡ Some x → i ≡ j
  once_get xs once i j x h k = once i j x (get_below xs i x h) (get_below xs j x k) (get_or_is xs i x x h ∙ sym (get_or_is xs j x x k))

  pub once_from_get : (xs : List A) → ((i j : ℕ) (x : A) → slice_get xs i ≡ Some x → slice_get xs j ≡ Some x → i ≡ j) → HasEachOnce xs
  once_from_get xs f i j d h k e = f i j (get_or xs j d) (get_is xs i d h ∙ ap Some e) (get_is xs j d k)

  pub once_empty : HasEachOnce {A = A} []
  once_empty i j d h k e = absurd (omega (arith, h))

  pub number_at : (xs : List A) (i : ℕ) (d : A) → HasEachOnce xs → i < length xs → IsNumberOf xs i (get_or xs i d)
  number_at xs i d once h =
      let at : (e : A) → get_or xs i e ≡ get_or xs i d = λ e. get_or_is xs i (get_or xs i d) e (get_is xs i d h) in
      record { has = h; at = at; alone = λ j e k same. once j i e k h (same ∙ sym (at e)) }

  pub number_from_get : (xs : List A) (i : ℕ) (x : A) → HasEachOnce xs → slice_get xs i ≡ Some x → IsNumberOf xs i x
  number_from_get xs i x once h =
      subst (IsNumberOf xs i) (get_or_is xs i x x h) (number_at xs i x once (get_below xs i x h))

  pub number_get : (xs : List A) (i : ℕ) (x : A) → IsNumberOf xs i x → slice_get xs i ≡ Some x
  number_get xs i x n = get_is xs i x n.has ∙ ap Some (n.at x)

  pub number_alone : (xs : List A) (i j : ℕ) (x : A) → IsNumberOf xs i x → slice_get xs j ≡ Some x → j ≡ i
  number_alone xs i j x n h = n.alone j x (get_below xs j x h) (get_or_is xs j x x h)

  -- where an item is put last that was not there, each stands once
  once_push : (xs : List A) (x : A) → HasEachOnce xs → ((j : ℕ) → slice_get xs j ≡ Some x → ⊥) → HasEachOnce (xs ++ x ∷ [])
  once_push xs x once absent = once_from_get (xs ++ x ∷ []) (λ i j y h k.
      elim (get_push_cases xs x i y h) [
        | inl oldi ↦ elim (get_push_cases xs x j y k) [
          | inl oldj ↦ once_get xs once i j y oldi oldj
          | inr newj ↦ absurd (absent i (oldi ∙ ap Some newj.1))
        ]
        | inr newi ↦ elim (get_push_cases xs x j y k) [
          | inl oldj ↦ absurd (absent j (oldj ∙ ap Some newi.1))
          | inr newj ↦ newi.0 ∙ sym newj.0
        ]
      ])

-- ---- among

module _ {A : Type 0} (same : A → A → Bool) where
  pub put_there : (xs : List A) (x : A) → is_among same xs x ≡ true → put same xs x ≡ xs
  put_there xs x h = ap (λ (b : Bool). cond b xs (xs ++ x ∷ [])) h

  pub put_absent : (xs : List A) (x : A) → is_among same xs x ≡ false → put same xs x ≡ xs ++ x ∷ []
  put_absent xs x h = ap (λ (b : Bool). cond b xs (xs ++ x ∷ [])) h

  pub put_cases : (xs : List A) (x : A) → ((is_among same xs x ≡ true) × (put same xs x ≡ xs)) ⊎ ((is_among same xs x ≡ false) × (put same xs x ≡ xs ++ x ∷ []))
  put_cases xs x = elim (either (is_among same xs x)) [ inl there ↦ inl (there, put_there xs x there) | inr absent ↦ inr (absent, put_absent xs x absent) ]

  pub put_grows : (xs : List A) (x : A) → Grows xs (put same xs x)
  put_grows xs x =
      elim (put_cases xs x) [
        | inl there ↦ subst (Grows xs) (sym there.1) (grows_self xs)
        | inr absent ↦ subst (Grows xs) (sym absent.1) (grows_append xs (x ∷ []))
      ]

  pub put_all_none : (xs : List A) → put_all same xs [] ≡ xs
  unfolding put_all
  put_all_none xs = refl

  pub put_all_first : (xs ys : List A) (y : A) → put_all same xs (y ∷ ys) ≡ put_all same (put same xs y) ys
  unfolding put_all
  put_all_first xs ys y = refl

  pub put_all_one : (xs : List A) (y : A) → put_all same xs (y ∷ []) ≡ put same xs y
  unfolding put_all
  put_all_one xs y = refl

  pub put_all_append : (xs ys zs : List A) → put_all same xs (ys ++ zs) ≡ put_all same (put_all same xs ys) zs
  unfolding put_all
  put_all_append xs ys zs = fold-append (put same) xs ys zs

  -- of a list one item further
  pub put_all_more : (xs ys : List A) (i : ℕ) (d : A) → i < length ys → put_all same xs (take (i + 1) ys) ≡ put same (put_all same xs (take i ys)) (get_or ys i d)
  put_all_more xs ys i d h =
      ap (put_all same xs) (take_more ys i d h) ∙ put_all_append xs (take i ys) (get_or ys i d ∷ []) ∙ put_all_one (put_all same xs (take i ys)) (get_or ys i d)

  pub put_all_grows : (xs ys : List A) → Grows xs (put_all same xs ys)
  unfolding put_all
  put_all_grows xs [] = grows_self xs
  put_all_grows xs (y ∷ ys) = grows_through xs (put same xs y) (put_all same xs (y ∷ ys)) (put_grows xs y) (put_all_grows (put same xs y) ys)

  -- what holds of each item of both lists holds of each item put there
  pub put_keeps : (P : A → Type 0) (xs : List A) (x : A) → ((i : ℕ) (y : A) → slice_get xs i ≡ Some y → P y) → P x → (i : ℕ) (y : A) → slice_get (put same xs x) i ≡ Some y → P y
  put_keeps P xs x f p i y h =
      elim (put_cases xs x) [
        | inl there ↦ f i y (ap (λ (us : List A). slice_get us i) (sym there.1) ∙ h)
        | inr absent ↦ elim (get_push_cases xs x i y (ap (λ (us : List A). slice_get us i) (sym absent.1) ∙ h)) [
          | inl old ↦ f i y old
          | inr new ↦ subst P (sym new.1) p
        ]
      ]

  module _ (decides : DecidesEquality same) where
    pub same_itself : (x : A) → same x x ≡ true
    same_itself x = (decides x x).1 refl

    pub among_get : (xs : List A) (x : A) (i : ℕ) → slice_get xs i ≡ Some x → is_among same xs x ≡ true
    among_get [] x i h = absurd cc
    among_get (y ∷ xs) x zero h =
        let e : x ≡ y = cc in
        or_left (same x y) (is_among same xs x) ((decides x y).1 e)
    among_get (y ∷ xs) x (suc i) h = or_right (same x y) (is_among same xs x) (among_get xs x i h)

    pub get_among : (xs : List A) (x : A) → is_among same xs x ≡ true → (i : ℕ) × (slice_get xs i ≡ Some x)
    get_among [] x h = absurd (true≢false (sym h))
    get_among (y ∷ xs) x h =
        elim (or_cases (same x y) (is_among same xs x) h) [
          | inl here ↦ (0, ap Some (sym ((decides x y).0 here)))
          | inr later ↦ let r = get_among xs x later in (suc r.0, r.1)
        ]

    pub not_among : (xs : List A) (x : A) → ((j : ℕ) → slice_get xs j ≡ Some x → ⊥) → is_among same xs x ≡ false
    not_among xs x absent =
        elim (either (is_among same xs x)) [
          | inl there ↦ let r = get_among xs x there in absurd (absent r.0 r.1)
          | inr missing ↦ missing
        ]

    pub absent_get : (xs : List A) (x : A) → is_among same xs x ≡ false → (j : ℕ) → slice_get xs j ≡ Some x → ⊥
    absent_get xs x missing j h = true≢false (sym (among_get xs x j h) ∙ missing)

    -- an item that has a number is not put again
    pub put_at : (xs : List A) (x : A) (i : ℕ) → slice_get xs i ≡ Some x → put same xs x ≡ xs
    put_at xs x i h = put_there xs x (among_get xs x i h)

    pub put_number : (xs : List A) (x : A) (i : ℕ) → IsNumberOf xs i x → put same xs x ≡ xs
    put_number xs x i n = put_at xs x i (number_get xs i x n)

    -- one that has none is put last
    pub put_last : (xs : List A) (x : A) → ((j : ℕ) → slice_get xs j ≡ Some x → ⊥) → put same xs x ≡ xs ++ x ∷ []
    put_last xs x absent = put_absent xs x (not_among xs x absent)

    pub put_once : (xs : List A) (x : A) → HasEachOnce xs → HasEachOnce (put same xs x)
    put_once xs x once =
        elim (put_cases xs x) [
          | inl there ↦ subst HasEachOnce (sym there.1) once
          | inr absent ↦ subst HasEachOnce (sym absent.1) (once_push xs x once (absent_get xs x absent.0))
        ]

    pub put_all_once : (xs ys : List A) → HasEachOnce xs → HasEachOnce (put_all same xs ys)
    unfolding put_all
    put_all_once xs [] once = once
    put_all_once xs (y ∷ ys) once = put_all_once (put same xs y) ys (put_once xs y once)

    -- the number of an item that was put last
    pub number_last : (xs : List A) (x : A) → HasEachOnce xs → ((j : ℕ) → slice_get xs j ≡ Some x → ⊥) → IsNumberOf (put same xs x) (length xs) x
    number_last xs x once absent =
        number_from_get (put same xs x) (length xs) x (put_once xs x once) (ap (λ (us : List A). slice_get us (length xs)) (put_last xs x absent) ∙ get_last xs x)

    -- the number of an item that was there
    pub number_there : (xs : List A) (x : A) (i : ℕ) → HasEachOnce xs → slice_get xs i ≡ Some x → IsNumberOf (put same xs x) i x
    number_there xs x i once h = number_from_get (put same xs x) i x (put_once xs x once) (ap (λ (us : List A). slice_get us i) (put_at xs x i h) ∙ h)

    -- ---- which items are there

    pub among_append_left : (xs ys : List A) (x : A) → is_among same xs x ≡ true → is_among same (xs ++ ys) x ≡ true
    among_append_left xs ys x h = let r = get_among xs x h in among_get (xs ++ ys) x r.0 (get_front xs ys r.0 x r.1)

    pub among_append_right : (xs ys : List A) (x : A) → is_among same ys x ≡ true → is_among same (xs ++ ys) x ≡ true
    among_append_right [] ys x h = h
    among_append_right (y ∷ xs) ys x h = or_right (same x y) (is_among same (xs ++ ys) x) (among_append_right xs ys x h)

    pub among_append_cases : (xs ys : List A) (x : A) → is_among same (xs ++ ys) x ≡ true → (is_among same xs x ≡ true) ⊎ (is_among same ys x ≡ true)
    among_append_cases [] ys x h = inr h
    among_append_cases (y ∷ xs) ys x h =
        elim (or_cases (same x y) (is_among same (xs ++ ys) x) h) [
          | inl here ↦ inl (or_left (same x y) (is_among same xs x) here)
          | inr later ↦ elim (among_append_cases xs ys x later) [
            | inl left ↦ inl (or_right (same x y) (is_among same xs x) left)
            | inr right ↦ inr right
          ]
        ]

    pub among_one : (x : A) → is_among same (x ∷ []) x ≡ true
    among_one x = or_left (same x x) false (same_itself x)

    pub among_one_is : (x y : A) → is_among same (x ∷ []) y ≡ true → y ≡ x
    among_one_is x y h = elim (or_cases (same y x) false h) [ inl e ↦ (decides y x).0 e | inr none ↦ absurd (true≢false (sym none)) ]

    pub among_put : (xs : List A) (x y : A) → is_among same xs y ≡ true → is_among same (put same xs x) y ≡ true
    among_put xs x y h =
        elim (put_cases xs x) [
          | inl there ↦ subst (λ (us : List A). is_among same us y ≡ true) (sym there.1) h
          | inr absent ↦ subst (λ (us : List A). is_among same us y ≡ true) (sym absent.1) (among_append_left xs (x ∷ []) y h)
        ]

    pub among_put_itself : (xs : List A) (x : A) → is_among same (put same xs x) x ≡ true
    among_put_itself xs x =
        elim (put_cases xs x) [
          | inl there ↦ subst (λ (us : List A). is_among same us x ≡ true) (sym there.1) there.0
          | inr absent ↦ subst (λ (us : List A). is_among same us x ≡ true) (sym absent.1) (among_append_right xs (x ∷ []) x (among_one x))
        ]

    pub among_put_cases : (xs : List A) (x y : A) → is_among same (put same xs x) y ≡ true → (is_among same xs y ≡ true) ⊎ (y ≡ x)
    among_put_cases xs x y h =
        elim (put_cases xs x) [
          | inl there ↦ inl (subst (λ (us : List A). is_among same us y ≡ true) there.1 h)
          | inr absent ↦ elim (among_append_cases xs (x ∷ []) y (subst (λ (us : List A). is_among same us y ≡ true) absent.1 h)) [
            | inl old ↦ inl old
            | inr new ↦ inr (among_one_is x y new)
          ]
        ]

    -- an item that is put has a number
    pub put_has_number : (xs : List A) (x : A) → HasEachOnce xs → (i : ℕ) × IsNumberOf (put same xs x) i x
    put_has_number xs x once =
        let r = get_among (put same xs x) x (among_put_itself xs x) in
        (r.0, number_from_get (put same xs x) r.0 x (put_once xs x once) r.1)

    pub among_all_left : (xs ys : List A) (x : A) → is_among same xs x ≡ true → is_among same (put_all same xs ys) x ≡ true
    unfolding put_all
    among_all_left xs [] x h = h
    among_all_left xs (y ∷ ys) x h = among_all_left (put same xs y) ys x (among_put xs y x h)

    pub among_all_right : (xs ys : List A) (x : A) → is_among same ys x ≡ true → is_among same (put_all same xs ys) x ≡ true
    unfolding put_all
    among_all_right xs [] x h = absurd (true≢false (sym h))
    among_all_right xs (y ∷ ys) x h =
        elim (or_cases (same x y) (is_among same ys x) h) [
          | inl here ↦ among_all_left (put same xs y) ys x (subst (λ (u : A). is_among same (put same xs y) u ≡ true) (sym ((decides x y).0 here)) (among_put_itself xs y))
          | inr later ↦ among_all_right (put same xs y) ys x later
        ]

    pub among_all_cases : (xs ys : List A) (x : A) → is_among same (put_all same xs ys) x ≡ true → (is_among same xs x ≡ true) ⊎ (is_among same ys x ≡ true)
    unfolding put_all
    among_all_cases xs [] x h = inl h
    among_all_cases xs (y ∷ ys) x h =
        elim (among_all_cases (put same xs y) ys x h) [
          | inl left ↦ elim (among_put_cases xs y x left) [
            | inl old ↦ inl old
            | inr new ↦ inr (or_left (same x y) (is_among same ys x) ((decides x y).1 new))
          ]
          | inr right ↦ inr (or_right (same x y) (is_among same ys x) right)
        ]

    -- where all are there, none is put
    pub put_all_there : (xs ys : List A) → ((y : A) → is_among same ys y ≡ true → is_among same xs y ≡ true) → put_all same xs ys ≡ xs
    unfolding put_all
    put_all_there xs [] h = refl
    put_all_there xs (y ∷ ys) h =
        ap (λ (us : List A). fold (put same) us ys) (put_there xs y (h y (or_left (same y y) (is_among same ys y) (same_itself y))))
        ∙ put_all_there xs ys (λ u k. h u (or_right (same u y) (is_among same ys u) k))

-- ---- numbered lists of what items stand for

module _ {A B : Type 0} (f : A → B) where
  pub get_map : (xs : List A) (i : ℕ) (x : A) → slice_get xs i ≡ Some x → slice_get (map f xs) i ≡ Some (f x)
  get_map [] i x h = absurd cc
  get_map (y ∷ xs) zero x h =
      let e : y ≡ x = cc in
      ap (λ z. Some (f z)) e
  get_map (y ∷ xs) (suc i) x h = get_map xs i x h

  pub map_get : (xs : List A) (i : ℕ) (y : B) → slice_get (map f xs) i ≡ Some y → (x : A) × (slice_get xs i ≡ Some x) × (f x ≡ y)
  map_get [] i y h = absurd cc
  map_get (x ∷ xs) zero y h = let e : f x ≡ y = cc in (x, refl, e)
  map_get (x ∷ xs) (suc i) y h = map_get xs i y h

  pub get_or_map : (xs : List A) (i : ℕ) (d : A) → get_or (map f xs) i (f d) ≡ f (get_or xs i d)
  get_or_map [] i d = refl
  get_or_map (x ∷ xs) zero d = refl
  get_or_map (x ∷ xs) (suc i) d = get_or_map xs i d

  pub map_push : (xs : List A) (x : A) → map f (xs ++ x ∷ []) ≡ map f xs ++ f x ∷ []
  map_push xs x = map-append f xs (x ∷ [])

  pub map_grows : (xs ys : List A) → Grows xs ys → Grows (map f xs) (map f ys)
  map_grows xs ys g = grows_from_get (map f xs) (map f ys) (omega (arith, g.longer, length-map xs f, length-map ys f)) (λ i y h.
      let r = map_get xs i y h in
      get_map ys i r.0 (grows_get xs ys i r.0 g r.1) ∙ ap Some r.2)

  module _ (same : A → A → Bool) (alike : B → B → Bool) where
    -- where f keeps the tests against the items of a list, it keeps what is among them
    pub map_among : (xs : List A) (x : A) → ((i : ℕ) (y : A) → slice_get xs i ≡ Some y → same x y ≡ alike (f x) (f y)) → is_among same xs x ≡ is_among alike (map f xs) (f x)
    map_among [] x h = refl
    map_among (y ∷ xs) x h = λ i. h 0 y refl i || map_among xs x (λ j z k. h (suc j) z k) i

    pub map_put : (xs : List A) (x : A) → ((i : ℕ) (y : A) → slice_get xs i ≡ Some y → same x y ≡ alike (f x) (f y)) → map f (put same xs x) ≡ put alike (map f xs) (f x)
    map_put xs x h =
        by (is_among same xs x) ∙ ap (λ (b : Bool). cond b (map f xs) (map f xs ++ f x ∷ [])) (map_among xs x h)
      where
        by : (b : Bool) → map f (cond b xs (xs ++ x ∷ [])) ≡ cond b (map f xs) (map f xs ++ f x ∷ [])
        by true = refl
        by false = map_push xs x

    -- the same of many, where P says of items that f keeps the tests between them
    pub map_put_all : (P : A → Type 0) → ((x y : A) → P x → P y → same x y ≡ alike (f x) (f y))
        → (xs ys : List A) → ((i : ℕ) (y : A) → slice_get xs i ≡ Some y → P y) → ((i : ℕ) (y : A) → slice_get ys i ≡ Some y → P y)
        → map f (put_all same xs ys) ≡ put_all alike (map f xs) (map f ys)
    unfolding put_all
    map_put_all P keeps xs [] h k = refl
    map_put_all P keeps xs (y ∷ ys) h k =
        let here = k 0 y refl in
        map_put_all P keeps (put same xs y) ys (put_keeps same P xs y h here) (λ i z e. k (suc i) z e)
        ∙ ap (λ (us : List B). fold (put alike) us (map f ys)) (map_put xs y (λ i z e. keeps y z here (h i z e)))
