-- The laws of formulas, for atoms of every kind. A test of atoms is one of their equality.
use Rattle.std.specs.Prelude.{◌≡◌, ◌↔◌, ℕ, ◌*◌, ◌<◌, ◌≤◌, Bool, IsTrue}
use Rattle.cx_prop.specs.Formula.{Formula, IsEquality, AtomsAre, TellsApart, renamed, same_formula}
use Rattle.cx_prop.specs.Truth.{Valuation, truth, Entails}
use Rattle.cx_prop.specs.Clauses.{subsumes}
use Rattle.cx_prop.specs.Counting.{disjunctive, conjunctive, greatest, saturated, counts_of}

-- equality of formulas is decided
abbrev pub LawOfEquality : Type 0 → Type 0
LawOfEquality A = (same : A → A → Bool) → IsEquality same → IsEquality (same_formula same)

-- subsumption by clauses is entailment
abbrev pub LawOfClauses : Type 0 → Type 0
LawOfClauses A = (same : A → A → Bool) → IsEquality same → (p q : Formula A) → IsTrue (subsumes same p q) ↔ Entails p q

-- each count is at least 1, and the product of two counts that are held in 64 bits passes a number that 64 bits hold
-- exactly where the true product does, held in 64 bits itself or not
pub record LawOfCounts (A : Type 0) : Type 0 where
  pub disjunctive_positive : (p : Formula A) → (1 ≤ disjunctive p) × (1 ≤ (counts_of p).dnf)
  pub conjunctive_positive : (p : Formula A) → (1 ≤ conjunctive p) × (1 ≤ (counts_of p).cnf)
  pub atoms_positive : (p : Formula A) → 1 ≤ (counts_of p).atoms
  pub passes : (p q : Formula A) (n : ℕ) → n < greatest → (n < (counts_of p).dnf * (counts_of q).cnf) ↔ (n < disjunctive p * conjunctive q)
  pub saturated_passes : (p q : Formula A) (n : ℕ) → n < greatest → (n < saturated ((counts_of p).dnf * (counts_of q).cnf)) ↔ (n < disjunctive p * conjunctive q)

-- renaming atoms keeps truth and counts, and what entails goes on to entail; where it tells the atoms of a kind
-- apart, formulas over these are equal just where the renamed ones are, and entail one another just where those do
pub record LawOfRenaming (A B : Type 0) : Type 0 where
  pub keeps_truth : (f : A → B) (v : Valuation B) (p : Formula A) → truth v (renamed f p) ≡ truth (λ a. v (f a)) p
  pub keeps_counts : (f : A → B) (p : Formula A) → counts_of (renamed f p) ≡ counts_of p
  pub keeps_entailment : (f : A → B) (p q : Formula A) → Entails p q → Entails (renamed f p) (renamed f q)
  pub keeps_equality : (f : A → B) (kind : A → Bool) → TellsApart kind f → (p q : Formula A) → AtomsAre kind p → AtomsAre kind q → renamed f p ≡ renamed f q → p ≡ q
  pub shows_entailment : (f : A → B) (kind : A → Bool) → TellsApart kind f → (same : B → B → Bool) → IsEquality same → (p q : Formula A) → AtomsAre kind p → AtomsAre kind q
      → Entails (renamed f p) (renamed f q) → Entails p q
