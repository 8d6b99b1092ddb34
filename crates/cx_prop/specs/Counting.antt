-- How many clauses and atoms a formula has.
use Rattle.std.specs.Prelude.{ℕ, ◌+◌, ◌*◌, ◌-◌, ◌^◌, min}
use Rattle.cx_prop.specs.declared.counts.Counts.{Counts}
use Rattle.cx_prop.specs.Formula.{Formula, Atom, And, Or}

-- the clauses of the disjunctive normal form
abbrev pub disjunctive : {A : Type 0} → Formula A → ℕ
disjunctive (Atom a) = 1
disjunctive (And p q) = disjunctive p * disjunctive q
disjunctive (Or p q) = disjunctive p + disjunctive q

-- the clauses of the conjunctive normal form
abbrev pub conjunctive : {A : Type 0} → Formula A → ℕ
conjunctive (Atom a) = 1
conjunctive (And p q) = conjunctive p + conjunctive q
conjunctive (Or p q) = conjunctive p * conjunctive q

-- the atoms of the tree, each as often as it stands there
abbrev pub atoms_in : {A : Type 0} → Formula A → ℕ
atoms_in (Atom a) = 1
atoms_in (And p q) = atoms_in p + atoms_in q
atoms_in (Or p q) = atoms_in p + atoms_in q

-- the greatest count that 64 bits hold
abbrev pub greatest : ℕ
greatest = 2 ^ 64 - 1

-- a count as 64 bits hold it: the greatest where there are more
unfoldable pub saturated : ℕ → ℕ
saturated n = min n greatest

-- the three counts of a formula
abbrev pub counts_of : {A : Type 0} → Formula A → Counts
counts_of p = record { dnf = saturated (disjunctive p); cnf = saturated (conjunctive p); atoms = saturated (atoms_in p) }
