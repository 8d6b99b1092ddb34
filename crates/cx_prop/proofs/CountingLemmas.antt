-- Saturated counts are made of saturated counts.
use Rattle.std.proofs.Common.{◌≡◌, ℕ, ◌+◌, ◌*◌, ◌-◌, ◌^◌, ◌<◌, ◌≤◌, sym, ap, subst, ◌∙◌, inl, inr, arith}
use Rattle.std.specs.Prelude.{min, ◌↔◌}
use Rattle.std.proofs.Math.Nat.{one-le-mul, le-mul_of_pos_right}
use Rattle.std.proofs.lemmas.Bool.{cases_lt}
use Rattle.cx_prop.specs.Formula.{Formula, Atom, And, Or}
use Rattle.cx_prop.specs.Counting.{disjunctive, conjunctive, atoms_in, greatest, saturated, counts_of}
use Rattle.cx_prop.specs.Laws.{LawOfCounts}

pub disjunctive-positive : {A : Type 0} (p : Formula A) → 1 ≤ disjunctive p
disjunctive-positive (Atom a) = omega arith
disjunctive-positive (And p q) = one-le-mul (disjunctive-positive p) (disjunctive-positive q)
disjunctive-positive (Or p q) = omega (arith, disjunctive-positive p)

pub conjunctive-positive : {A : Type 0} (p : Formula A) → 1 ≤ conjunctive p
conjunctive-positive (Atom a) = omega arith
conjunctive-positive (And p q) = omega (arith, conjunctive-positive p)
conjunctive-positive (Or p q) = one-le-mul (conjunctive-positive p) (conjunctive-positive q)

min_small : (a m : ℕ) → a ≤ m → min a m ≡ a
min_small a m h = omega arith

min_great : (a m : ℕ) → m ≤ a → min a m ≡ m
min_great a m h = omega arith

great_left : (a b x m : ℕ) → 1 ≤ b → m ≤ a → 1 ≤ x → min (m * x) m ≡ min (a * b) m
great_left a b x m hb h hx =
    let left : m ≤ m * x = le-mul_of_pos_right m (omega arith) in
    let right : a ≤ a * b = le-mul_of_pos_right a (omega arith) in
    min_great (m * x) m left ∙ sym (min_great (a * b) m (omega arith))

swapped : (a b : ℕ) → a * b ≡ b * a
swapped a b = omega arith

min_product : (m : ℕ) → 1 ≤ m → (a b : ℕ) → 1 ≤ a → 1 ≤ b → min (min a m * min b m) m ≡ min (a * b) m
min_product m hm a b ha hb =
    elim (cases_lt a m) [
      | inl small ↦ elim (cases_lt b m) [
        | inl too ↦ ap (λ (x : ℕ). min (x * min b m) m) (min_small a m (omega arith)) ∙ ap (λ (x : ℕ). min (a * x) m) (min_small b m (omega arith))
        | inr great ↦ ap (λ (x : ℕ). min (min a m * x) m) (min_great b m great) ∙ ap (λ (x : ℕ). min x m) (swapped (min a m) m) ∙ great_left b a (min a m) m ha great (omega arith) ∙ ap (λ (x : ℕ). min x m) (swapped b a)
      ]
      | inr great ↦ ap (λ (x : ℕ). min (x * min b m) m) (min_great a m great) ∙ great_left a b (min b m) m hb great (omega arith)
    ]

min_sum : (m a b : ℕ) → min (min a m + min b m) m ≡ min (a + b) m
min_sum m a b = omega arith

pub product : (r x y a b : ℕ) → r ≡ min (x * y) (2 ^ 64 - 1) → x ≡ saturated a → y ≡ saturated b → 1 ≤ a → 1 ≤ b → r ≡ saturated (a * b)
unfolding saturated
product r x y a b e h k ha hb =
    e ∙ (λ i. min (h i * k i) (2 ^ 64 - 1)) ∙ min_product (2 ^ 64 - 1) (omega arith) a b ha hb

pub total : (r x y a b : ℕ) → r ≡ min (x + y) (2 ^ 64 - 1) → x ≡ saturated a → y ≡ saturated b → r ≡ saturated (a + b)
unfolding saturated
total r x y a b e h k = e ∙ (λ i. min (h i + k i) (2 ^ 64 - 1)) ∙ min_sum (2 ^ 64 - 1) a b

-- ---- what products of saturated counts pass

pub atoms-positive : {A : Type 0} (p : Formula A) → 1 ≤ atoms_in p
atoms-positive (Atom a) = omega arith
atoms-positive (And p q) = omega (arith, atoms-positive p)
atoms-positive (Or p q) = omega (arith, atoms-positive p)

positive : (a : ℕ) → 1 ≤ a → 1 ≤ saturated a
unfolding saturated
positive a h = omega arith

at_most : (m a b : ℕ) → 1 ≤ a → 1 ≤ b → m ≤ a → m ≤ a * b
at_most m a b ha hb h = omega (arith, le-mul_of_pos_right a hb)

-- the product of two counts cut at m passes what is less than m exactly where the true product does
cut_passes : (m n a b : ℕ) → n < m → 1 ≤ a → 1 ≤ b → (n < min a m * min b m) ↔ (n < a * b)
cut_passes m n a b lt ha hb =
    elim (cases_lt a m) [
      | inl small ↦ elim (cases_lt b m) [
        | inl too ↦
            let same : min a m * min b m ≡ a * b = (λ i. min_small a m (omega arith) i * min_small b m (omega arith) i) in
            (λ h. subst (λ (x : ℕ). n < x) same h, λ h. subst (λ (x : ℕ). n < x) (sym same) h)
        | inr great ↦
            let left : m ≤ b * a = at_most m b a hb ha great in
            let right : m ≤ m * min a m = at_most m m (min a m) (omega arith) (omega arith) (omega arith) in
            let is : min a m * min b m ≡ m * min a m = ap (λ (x : ℕ). min a m * x) (min_great b m great) ∙ swapped (min a m) m in
            (λ h. omega (arith, left, swapped a b), λ h. omega (arith, right, is))
      ]
      | inr great ↦
          let left : m ≤ a * b = at_most m a b ha hb great in
          let right : m ≤ m * min b m = at_most m m (min b m) (omega arith) (omega arith) (omega arith) in
          let is : min a m * min b m ≡ m * min b m = ap (λ (x : ℕ). x * min b m) (min_great a m great) in
          (λ h. omega (arith, left), λ h. omega (arith, right, is))
    ]

cut_passes_twice : (m n x y : ℕ) → n < m → (n < x) ↔ (n < y) → (n < min x m) ↔ (n < y)
cut_passes_twice m n x y lt h = (λ k. h.0 (omega arith), λ k. omega (arith, h.1 k))

counts_pass : {A : Type 0} (p q : Formula A) (n : ℕ) → n < greatest → (n < saturated (disjunctive p) * saturated (conjunctive q)) ↔ (n < disjunctive p * conjunctive q)
unfolding saturated
counts_pass p q n lt = cut_passes greatest n (disjunctive p) (conjunctive q) lt (disjunctive-positive p) (conjunctive-positive q)

counts_pass_saturated : {A : Type 0} (p q : Formula A) (n : ℕ) → n < greatest → (n < saturated (saturated (disjunctive p) * saturated (conjunctive q))) ↔ (n < disjunctive p * conjunctive q)
unfolding saturated
counts_pass_saturated p q n lt =
    cut_passes_twice greatest n (min (disjunctive p) greatest * min (conjunctive q) greatest) (disjunctive p * conjunctive q) lt
    (cut_passes greatest n (disjunctive p) (conjunctive q) lt (disjunctive-positive p) (conjunctive-positive q))

pub law_of_counts : (A : Type 0) → LawOfCounts A
law_of_counts A = record {
  disjunctive_positive = λ p. (disjunctive-positive p, positive (disjunctive p) (disjunctive-positive p));
  conjunctive_positive = λ p. (conjunctive-positive p, positive (conjunctive p) (conjunctive-positive p));
  atoms_positive = λ p. positive (atoms_in p) (atoms-positive p);
  passes = λ p q n lt. counts_pass p q n lt;
  saturated_passes = λ p q n lt. counts_pass_saturated p q n lt;
}
