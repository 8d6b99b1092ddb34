-- Places step by step.
use Rattle.std.proofs.Common.{◌≡◌, ℕ, ◌+◌, ◌≤◌, eqb, not, inl, inr, Bool, List, [], ◌∷◌, ◌++◌, length, refl, sym, ap, ◌∙◌, arith}
use Rattle.std.proofs.lemmas.Bool.{cases_Bool}
use Rattle.cx_base.specs.declared.place.Place.{Place}
use Rattle.std.proofs.Common.{append_assoc, cond}
use Rattle.std.specs.List.{count_by, prefix_len, suffix_len}
use Rattle.std.proofs.lemmas.List.{append-nil, reverse-append}
use Rattle.std.proofs.lemmas.List.Sums.{sum_by-append}
use Rattle.cx_lexer.specs.Places.{place_of, place_at, behind, place_behind, start}

behind-line : (at : Place) (b : ℕ) → (behind at b).line ≤ at.line + 1
behind-line at b = elim (cases_Bool (eqb b 10)) [ inl newline ↦ rw newline (omega arith) | inr other ↦ rw other (omega arith) ]

behind-col : (at : Place) (b : ℕ) → (behind at b).col ≤ at.col + 1
behind-col at b = elim (cases_Bool (eqb b 10)) [ inl newline ↦ rw newline (omega arith) | inr other ↦ rw other (omega arith) ]

pub place_behind-line : (at : Place) (text : List ℕ) → (place_behind at text).line ≤ at.line + length text
place_behind-line at [] = omega arith
place_behind-line at (b ∷ bs) = omega (arith, place_behind-line (behind at b) bs, behind-line at b)

pub place_behind-col : (at : Place) (text : List ℕ) → (place_behind at text).col ≤ at.col + length text
place_behind-col at [] = omega arith
place_behind-col at (b ∷ bs) = omega (arith, place_behind-col (behind at b) bs, behind-col at b)

pub place_behind-append : (at : Place) (xs ys : List ℕ) → place_behind at (xs ++ ys) ≡ place_behind (place_behind at xs) ys
place_behind-append at [] ys = refl
place_behind-append at (x ∷ xs) ys = place_behind-append (behind at x) xs ys

-- ---- the place behind some bytes

count_by-snoc : (p : ℕ → Bool) (xs : List ℕ) (b : ℕ) → count_by p (xs ++ b ∷ []) ≡ count_by p xs + cond (p b) 1 0
count_by-snoc p xs b =
    let parts : count_by p (xs ++ b ∷ []) ≡ count_by p xs + (0 + cond (p b) 1 0) = sum_by-append (λ x. cond (p x) 1 0) xs (b ∷ []) in
    let one : 0 + cond (p b) 1 0 ≡ cond (p b) 1 0 = omega arith in
    parts ∙ ap (λ (n : ℕ). count_by p xs + n) one

suffix_len-snoc : (p : ℕ → Bool) (xs : List ℕ) (b : ℕ) → suffix_len p (xs ++ b ∷ []) ≡ cond (p b) (1 + suffix_len p xs) 0
suffix_len-snoc p xs b = ap (prefix_len p) (reverse-append xs (b ∷ []))

place : ℕ → ℕ → Place
place l c = record { line = l; col = c }

same_place : (l m c d : ℕ) → l ≡ m → c ≡ d → place l c ≡ place m d
same_place l m c d e f = rw (e, f) refl

place_of-snoc : (xs : List ℕ) (b : ℕ) → place_of (xs ++ b ∷ []) ≡ behind (place_of xs) b
unfolding place_of place
place_of-snoc xs b =
    let lines = count_by-snoc (λ x. eqb x 10) xs b in
    let columns = suffix_len-snoc (λ x. not (eqb x 10)) xs b in
    elim (cases_Bool (eqb b 10)) [
      | inl newline ↦ (
          let n = rw newline at lines in
          let m = rw newline at columns in
          rw newline (same_place _ _ _ _ (omega (arith, n)) (omega (arith, m))))
      | inr other ↦ (
          let n = rw other at lines in
          let m = rw other at columns in
          rw other (same_place _ _ _ _ (omega (arith, n)) (omega (arith, m))))
    ]

pub place_of-append : (xs ys : List ℕ) → place_of (xs ++ ys) ≡ place_behind (place_of xs) ys
place_of-append xs [] = ap place_of (append-nil xs)
place_of-append xs (y ∷ ys) = ap place_of (sym (append_assoc xs (y ∷ []) ys)) ∙ place_of-append (xs ++ y ∷ []) ys ∙ ap (λ (p : Place). place_behind p ys) (place_of-snoc xs y)

pub place_of-nil : place_of [] ≡ start
unfolding place_of
place_of-nil = refl

pub place_of-fold : (bytes : List ℕ) → place_of bytes ≡ place_behind start bytes
place_of-fold bytes = place_of-append [] bytes ∙ ap (λ (p : Place). place_behind p bytes) place_of-nil

pub place_at-start : (bytes : List ℕ) → place_at bytes 0 ≡ start
place_at-start bytes = place_of-nil

pub place_of-line : (bytes : List ℕ) → (place_of bytes).line ≤ 1 + length bytes
place_of-line bytes = rw (place_of-fold bytes) (place_behind-line start bytes)

pub place_of-col : (bytes : List ℕ) → (place_of bytes).col ≤ 1 + length bytes
place_of-col bytes = rw (place_of-fold bytes) (place_behind-col start bytes)
