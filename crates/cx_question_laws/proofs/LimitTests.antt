-- Tests of limits: where a limit grows, what passed the test before passes it.
use Rattle.std.proofs.Common.{◌≡◌, ◌⊎◌, ℕ, ◌≤◌, Bool, true, false, ◌&&◌, not, List, [], ◌∷◌, refl, sym, ap, ◌∙◌, ◌*◌, subst, true≢false, inl, inr, arith}
use Rattle.std.specs.Prelude.{Option, Some, None, nat_le, nat_lt}
use Rattle.std.specs.List.{list_any}
use Rattle.std.proofs.lemmas.Bool.{le-leb, leb-true, lt-ltb, ltb-true}
use Rattle.cx_base.specs.declared.limit.Limit.{Limit}
use Rattle.cx_base.specs.declared.limit.Limit.TheVariants as limit
use Rattle.cx_base.specs.declared.place.Place.{Place}
use Rattle.cx_numbered.proofs.Numbered.{or_cases, or_right, or_left}
use Rattle.cx_prop.proofs.Tests.{and_left, and_right, and_both}
use Rattle.cx_prop.specs.Counting.{disjunctive, conjunctive, atoms_in}
use Rattle.cx_term.specs.Size.{nodes, depth}
use Rattle.cx_term.specs.Term.{Term}
use Rattle.cx_questions.specs.Answers.{Answer, given}
use Rattle.cx_questions.specs.Best.{some_pair, each_with_others}
use Rattle.cx_questions.specs.ConstraintOrder.{too_many_clauses, passes_clauses}
use Rattle.cx_questions.specs.Environments.{Form}
use Rattle.cx_questions.specs.NormalForms.{joined}
use Rattle.cx_questions.specs.Program.{Program, Limits, with_limits}
use Rattle.cx_questions.specs.Substitution.{made}
use Rattle.cx_question_laws.specs.Staying.{Stays, AtMost}
use Rattle.cx_question_laws.proofs.Combining.{same_stays, then_stays, limit_stays}

-- limits are as they were, or all of them are of the kind and none is smaller
pub record Larger (kind : Limit → Bool) (m l : Limits) : Type 0 where
  pub larger : (m ≡ l) ⊎ (((x : Limit) → kind x ≡ true) × AtMost m l)

-- ---- tests that hold more often

pub le_more : (n m l : ℕ) → m ≤ l → nat_le n m ≡ true → nat_le n l ≡ true
le_more n m l h k = let j = leb-true n m k in le-leb n l (omega (arith, j, h))

pub lt_less : (m l n : ℕ) → m ≤ l → nat_lt l n ≡ true → nat_lt m n ≡ true
lt_less m l n h k = let j = ltb-true l n k in lt-ltb m n (omega (arith, j, h))

pub lt_more : (n m l : ℕ) → m ≤ l → nat_lt n m ≡ true → nat_lt n l ≡ true
lt_more n m l h k = let j = ltb-true n m k in lt-ltb n l (omega (arith, j, h))

pub not_less : (a b : Bool) → (b ≡ true → a ≡ true) → not a ≡ true → not b ≡ true
not_less a true h k = absurd (true≢false (sym k ∙ ap not (h refl)))
not_less a false h k = refl

pub any_less : {A : Type 0} (p q : A → Bool) → ((x : A) → p x ≡ true → q x ≡ true) → (xs : List A) → list_any p xs ≡ true → list_any q xs ≡ true
any_less p q h [] k = k
any_less p q h (x ∷ xs) k = elim (or_cases (p x) (list_any p xs) k) [
  | inl here ↦ or_left (q x) (list_any q xs) (h x here)
  | inr later ↦ or_right (q x) (list_any q xs) (any_less p q h xs later)
]

pub pair_less : {A : Type 0} (r s : A → A → Bool) → ((x y : A) → r x y ≡ true → s x y ≡ true) → (xs : List A) → some_pair r xs ≡ true → some_pair s xs ≡ true
pair_less r s h xs k = any_less (λ p. list_any (r p.0) p.1) (λ p. list_any (s p.0) p.1) (λ p j. any_less (r p.0) (s p.0) (h p.0) p.1 j) (each_with_others xs) k

pub clauses_less : (m l : ℕ) → m ≤ l → (p q : Option Form) → too_many_clauses l p q ≡ true → too_many_clauses m p q ≡ true
clauses_less m l h (Some p) (Some q) k = elim (or_cases (passes_clauses l p q) (passes_clauses l q p) k) [
  | inl here ↦ or_left (passes_clauses m p q) (passes_clauses m q p) (lt_less m l (disjunctive p * conjunctive q) h here)
  | inr there ↦ or_right (passes_clauses m p q) (passes_clauses m q p) (lt_less m l (disjunctive q * conjunctive p) h there)
]
clauses_less m l h (Some p) None k = k
clauses_less m l h None (Some q) k = k
clauses_less m l h None None k = k

pub left_and : (a b c : Bool) → (b ≡ true → c ≡ true) → (a && b) ≡ true → (a && c) ≡ true
left_and a b c h k = and_both a c (and_left a b k) (h (and_right a b k))

-- ---- trees and normal forms

module _ (kind : Limit → Bool) (u : Program) (l : Limits) (larger : Larger kind u.limits l) where
  -- what a limit decides stays: as it was, or by a test that holds more often
  pub by_limits : {A : Type 0} (f : Limits → Answer A) → (((x : Limit) → kind x ≡ true) → AtMost u.limits l → Stays kind (f u.limits) (f l)) → Stays kind (f u.limits) (f l)
  by_limits f h = go larger.larger
    where
      go : (u.limits ≡ l) ⊎ (((x : Limit) → kind x ≡ true) × AtMost u.limits l) → Stays kind (f u.limits) (f l)
      go (inl e) = subst (λ m. Stays kind (f u.limits) (f m)) e (same_stays (f u.limits))
      go (inr (all, most)) = h all most

  pub made_stays : (at : Place) (t : Term) → Stays kind (made u at t) (made (with_limits u l) at t)
  made_stays at t =
      by_limits (λ m. made (with_limits u m) at t) (λ all most.
      then_stays
      (limit_stays (nat_le (nodes t) u.limits.nodes && nat_le (depth t) u.limits.depth) (nat_le (nodes t) l.nodes && nat_le (depth t) l.depth) limit.TermSize at (all limit.TermSize)
      (λ h.
      and_both (nat_le (nodes t) l.nodes) (nat_le (depth t) l.depth)
      (le_more (nodes t) u.limits.nodes l.nodes most.nodes (and_left (nat_le (nodes t) u.limits.nodes) (nat_le (depth t) u.limits.depth) h))
      (le_more (depth t) u.limits.depth l.depth most.depth (and_right (nat_le (nodes t) u.limits.nodes) (nat_le (depth t) u.limits.depth) h))))
      (λ x. same_stays (given t)))

  pub joined_stays : (at : Place) (join : Form → Form → Form) (p q : Form) → Stays kind (joined u at join p q) (joined (with_limits u l) at join p q)
  joined_stays at join p q =
      by_limits (λ m. joined (with_limits u m) at join p q) (λ all most.
      then_stays (limit_stays (nat_le (atoms_in (join p q)) u.limits.atoms) (nat_le (atoms_in (join p q)) l.atoms) limit.Atoms at (all limit.Atoms) (le_more (atoms_in (join p q)) u.limits.atoms l.atoms most.atoms)) (λ x. same_stays (given (join p q))))
