-- The best of a list, and the orders by which it is the best.
use Rattle.std.proofs.Common.{◌≡◌, Bool, true, false, List, [], ◌∷◌, ◌++◌, refl, sym, ap, ◌∙◌, true≢false, ◌||◌, ◌⊎◌, cond, not, inl, inr}
use Rattle.std.specs.Prelude.{Option, Some, None, find, if◌then◌else◌, filter}
use Rattle.std.specs.List.{list_all, list_any}
use Rattle.cx_prop.proofs.Same.{same_atomic-Decides}
use Rattle.cx_prop.proofs.Tests.{and_left, and_right, and_both}
use Rattle.cx_questions.proofs.Entailing.{law_of_entailment}
use Rattle.cx_questions.specs.Best.{each_after}
use Rattle.cx_questions.specs.ConstraintOrder.{identical}
use Rattle.cx_term.proofs.Trees.{terms_decided}
use Rattle.cx_term.specs.Same.{same_term}
use Rattle.cx_question_laws.specs.Algorithms.{IsMember, IsAsymmetric, LawOfBest, LawOfSubsumption}

-- ---- lists

append_nil : {A : Type 0} (xs : List A) → xs ++ [] ≡ xs
append_nil [] = refl
append_nil (x ∷ xs) = ap (λ (ys : List _). x ∷ ys) (append_nil xs)

append_assoc : {A : Type 0} (xs ys zs : List A) → (xs ++ ys) ++ zs ≡ xs ++ (ys ++ zs)
append_assoc [] ys zs = refl
append_assoc (x ∷ xs) ys zs = ap (λ (vs : List _). x ∷ vs) (append_assoc xs ys zs)

-- one element on the way: before it, it, and after it
moved_over : {A : Type 0} (before : List A) (y : A) (rest : List A) → (before ++ y ∷ []) ++ rest ≡ before ++ (y ∷ rest)
moved_over before y rest = append_assoc before (y ∷ []) rest

all_split : {A : Type 0} (t : A → Bool) (xs ys : List A) → list_all t (xs ++ ys) ≡ true → (list_all t xs ≡ true) × (list_all t ys ≡ true)
all_split t [] ys h = (refl, h)
all_split t (x ∷ xs) ys h =
    let p = all_split t xs ys (and_right (t x) (list_all t (xs ++ ys)) h) in
    (and_both (t x) (list_all t xs) (and_left (t x) (list_all t (xs ++ ys)) h) (p.0), p.1)

-- a test that fails of one of a list does not hold of all
not_all : {A : Type 0} (t : A → Bool) (xs : List A) (x : A) (ys : List A) → t x ≡ false → list_all t (xs ++ x ∷ ys) ≡ false
not_all t xs x ys h = go (list_all t (xs ++ x ∷ ys)) refl
  where
    go : (b : Bool) → list_all t (xs ++ x ∷ ys) ≡ b → list_all t (xs ++ x ∷ ys) ≡ false
    go false e = e
    go true e = absurd (true≢false (sym (and_left (t x) (list_all t ys) ((all_split t xs (x ∷ ys) e).1)) ∙ h))

module _ {A : Type 0} (better : A → A → Bool) where
  beats : A × List A → Bool
  beats p = list_all (better p.0) p.1

  pair : A → List A → Option (A × List A)
  pair x others = Some (x, others)

  -- what is found is a member, with all others, that it is better than
  found : (before xs : List A) (x : A) (others : List A) → find beats (each_after before xs) ≡ pair x others
      → (front : List A) × (back : List A) × (xs ≡ front ++ x ∷ back) × (others ≡ (before ++ front) ++ back) × (list_all (better x) others ≡ true)
  unfolding beats pair
  found before [] x others e = absurd (nothing_there e)
    where
      is_there : Option (A × List A) → Bool
      is_there None = false
      is_there (Some y) = true

      nothing_there : None ≡ pair x others → ⊥
      nothing_there h = true≢false (sym (ap is_there h))
  found before (y ∷ ys) x others e = go (list_all (better y) (before ++ ys)) refl e (λ k. found (before ++ y ∷ []) ys x others k)
    where
      out : Option (A × List A) → A × List A
      out None = (x, others)
      out (Some p) = p

      Found : List A → List A → Type 0
      Found b zs = (front : List A) × (back : List A) × (zs ≡ front ++ x ∷ back) × (others ≡ (b ++ front) ++ back) × (list_all (better x) others ≡ true)

      here : list_all (better y) (before ++ ys) ≡ true → ◌≡◌ {A = A × List A} (y, before ++ ys) (x, others) → Found before (y ∷ ys)
      here h k =
          ([], ys, ap (λ (p : A × List A). p.0 ∷ ys) k, sym (ap (λ (p : A × List A). p.1) k) ∙ ap (λ (zs : List A). zs ++ ys) (sym (append_nil before)), ap beats (sym k) ∙ h)

      go : (b : Bool) → list_all (better y) (before ++ ys) ≡ b → (if b then Some (y, before ++ ys) else find (λ p. list_all (better p.0) p.1) (each_after (before ++ y ∷ []) ys)) ≡ pair x others
          → (find (λ p. list_all (better p.0) p.1) (each_after (before ++ y ∷ []) ys) ≡ pair x others → Found (before ++ y ∷ []) ys) → Found before (y ∷ ys)
      go true h e later = here h (ap out e)
      go false h e later =
          let p = later e in
          (y ∷ p.0, p.1, ap (λ (zs : List A). y ∷ zs) (p.2), p.3 ∙ ap (λ (zs : List A). zs ++ p.1) (moved_over before y (p.0)), p.4)

  -- what is better than all others is found, where better is asymmetric
  find_best : IsAsymmetric better → (before front : List A) (x : A) (back : List A) → list_all (better x) ((before ++ front) ++ back) ≡ true
      → find beats (each_after before (front ++ x ∷ back)) ≡ pair x ((before ++ front) ++ back)
  unfolding beats pair
  find_best asym before [] x back h = go (list_all (better x) (before ++ back)) (ap (λ (zs : List A). list_all (better x) (zs ++ back)) (sym (append_nil before)) ∙ h)
    where
      others : before ++ back ≡ (before ++ []) ++ back
      others = ap (λ (zs : List A). zs ++ back) (sym (append_nil before))

      go : (b : Bool) → b ≡ true → (if b then Some (x, before ++ back) else find (λ p. list_all (better p.0) p.1) (each_after (before ++ x ∷ []) back)) ≡ pair x ((before ++ []) ++ back)
      go true k = ap (λ (zs : List A). pair x zs) others
      go false k = absurd (true≢false (sym k))
  find_best asym before (y ∷ ys) x back h = go (list_all (better y) (before ++ (ys ++ x ∷ back))) passed (find_best asym (before ++ y ∷ []) ys x back moved)
    where
      moved : list_all (better x) (((before ++ y ∷ []) ++ ys) ++ back) ≡ true
      moved = ap (λ (zs : List A). list_all (better x) (zs ++ back)) (moved_over before y ys) ∙ h

      -- x is better than y, so y is not better than x
      y_loses : better y x ≡ false
      y_loses = asym x y (and_left (better x y) (list_all (better x) ys) ((all_split (better x) before (y ∷ ys) ((all_split (better x) (before ++ y ∷ ys) back h).0)).1))

      passed : list_all (better y) (before ++ (ys ++ x ∷ back)) ≡ false
      passed = ap (λ (zs : List A). list_all (better y) zs) (sym (append_assoc before ys (x ∷ back))) ∙ not_all (better y) (before ++ ys) x back y_loses

      go : (b : Bool) → b ≡ false → find (λ p. list_all (better p.0) p.1) (each_after (before ++ y ∷ []) (ys ++ x ∷ back)) ≡ pair x (((before ++ y ∷ []) ++ ys) ++ back)
          → (if b then Some (y, before ++ (ys ++ x ∷ back)) else find (λ p. list_all (better p.0) p.1) (each_after (before ++ y ∷ []) (ys ++ x ∷ back))) ≡ pair x ((before ++ (y ∷ ys)) ++ back)
      go true k e = absurd (true≢false k)
      go false k e = e ∙ ap (λ (zs : List A). pair x (zs ++ back)) (moved_over before y ys)

-- ---- members

module _ {A : Type 0} where
  no_member : (x : A) → IsMember x [] → ⊥
  no_member x (front, back, e) = go front e
    where
      is_empty : List A → Bool
      is_empty [] = true
      is_empty (y ∷ ys) = false

      go : (front : List A) → [] ≡ front ++ x ∷ back → ⊥
      go [] e = true≢false (ap is_empty e)
      go (y ∷ ys) e = true≢false (ap is_empty e)

  head_of : A → List A → A
  head_of z [] = z
  head_of z (y ∷ ys) = y

  tail_of : List A → List A
  tail_of [] = []
  tail_of (y ∷ ys) = ys

  -- a member is the first, or one of the rest
  member_cases : (x y : A) (ys : List A) → IsMember x (y ∷ ys) → (x ≡ y) ⊎ IsMember x ys
  unfolding head_of tail_of
  member_cases x y ys ([], back, e) = inl (sym (ap (head_of x) e))
  member_cases x y ys (z ∷ zs, back, e) = inr (zs, back, ap tail_of e)

  is_first : (x y : A) (ys : List A) → x ≡ y → IsMember x (y ∷ ys)
  is_first x y ys e = ([], ys, ap (λ (z : A). z ∷ ys) (sym e))

  is_later : (x y : A) (ys : List A) → IsMember x ys → IsMember x (y ∷ ys)
  is_later x y ys (front, back, e) = (y ∷ front, back, ap (λ (zs : List A). y ∷ zs) e)

  module _ (t : A → Bool) where
    -- what passes a test are the members that do
    kept_is : (xs : List A) (x : A) → IsMember x (filter t xs) → IsMember x xs × (t x ≡ true)
    kept_is [] x m = absurd (no_member x m)
    kept_is (y ∷ ys) x m = go (t y) refl m (λ k. kept_is ys x k)
      where
        go : (b : Bool) → t y ≡ b → IsMember x (cond b (y ∷ filter t ys) (filter t ys)) → (IsMember x (filter t ys) → IsMember x ys × (t x ≡ true)) → IsMember x (y ∷ ys) × (t x ≡ true)
        go true e m k = elim (member_cases x y (filter t ys) m) [
          | inl here ↦ (is_first x y ys here, ap t here ∙ e)
          | inr later ↦ let p = k later in (is_later x y ys (p.0), p.1)
        ]
        go false e m k = let p = k m in (is_later x y ys (p.0), p.1)

    is_kept : (xs : List A) (x : A) → IsMember x xs → t x ≡ true → IsMember x (filter t xs)
    is_kept [] x m h = absurd (no_member x m)
    is_kept (y ∷ ys) x m h = go (t y) refl (member_cases x y ys m) (λ k. is_kept ys x k h)
      where
        go : (b : Bool) → t y ≡ b → (x ≡ y) ⊎ IsMember x ys → (IsMember x ys → IsMember x (filter t ys)) → IsMember x (cond b (y ∷ filter t ys) (filter t ys))
        go true e (inl here) k = is_first x y (filter t ys) here
        go true e (inr later) k = is_later x y (filter t ys) (k later)
        go false e (inl here) k = absurd (true≢false (sym h ∙ ap t here ∙ e))
        go false e (inr later) k = k later

    -- no member passes a test exactly where none is found to
    none_passes : (xs : List A) → list_any t xs ≡ false → (y : A) → IsMember y xs → t y ≡ false
    none_passes [] h y m = absurd (no_member y m)
    none_passes (z ∷ zs) h y m = elim (member_cases y z zs m) [
      | inl here ↦ ap t here ∙ first_false (t z) (list_any t zs) h
      | inr later ↦ none_passes zs (second_false (t z) (list_any t zs) h) y later
    ]
      where
        first_false : (a b : Bool) → (a || b) ≡ false → a ≡ false
        first_false true b h = h
        first_false false b h = refl

        second_false : (a b : Bool) → (a || b) ≡ false → b ≡ false
        second_false true b h = absurd (true≢false h)
        second_false false b h = h

    none_found : (xs : List A) → ((y : A) → IsMember y xs → t y ≡ false) → list_any t xs ≡ false
    none_found [] h = refl
    none_found (z ∷ zs) h = λ i. h z (is_first z z zs refl) i || none_found zs (λ y m. h y (is_later y z zs m)) i

not_is : (b : Bool) → not b ≡ true → b ≡ false
not_is true h = absurd (true≢false (sym h))
not_is false h = refl

pub law_of_best : (A : Type 0) → LawOfBest A
unfolding beats pair
law_of_best A = record {
  is_better = λ better xs x others e. found better [] xs x others e;
  is_best = λ better asym front x back h. find_best better asym [] front x back h;
  is_unbeaten = λ better xs x. (
    λ m.
        let p = kept_is (λ z. not (list_any (λ y. better y z) xs)) xs x m in
        (p.0, none_passes (λ y. better y x) xs (not_is (list_any (λ y. better y x) xs) (p.1))),
    λ p. is_kept (λ z. not (list_any (λ y. better y z) xs)) xs x (p.0) (ap not (none_found (λ y. better y x) xs (p.1))),
  );
}

-- ---- subsumption

pub law_of_subsumption : LawOfSubsumption
law_of_subsumption p q = law_of_entailment _ identical (same_atomic-Decides same_term terms_decided) p q
