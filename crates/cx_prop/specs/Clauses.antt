-- Subsumption by clauses ([temp.constr.order]).
use Rattle.std.specs.Prelude.{Bool, List, [], ◌∷◌, ◌++◌, map}
use Rattle.std.specs.List.{list_any, list_all, flat_map}
use Rattle.cx_prop.specs.Formula.{Formula, Atom, And, Or}
use Rattle.cx_prop.specs.Truth.{among}

-- a clause is a list of atoms
abbrev pub Clause : Type 0 → Type 0
Clause A = List A

-- each clause of the first list together with each of the second
abbrev pub pairwise : {A : Type 0} → List (Clause A) → List (Clause A) → List (Clause A)
pairwise cs ds = flat_map (λ c. map (λ d. c ++ d) ds) cs

-- the clauses of the disjunctive normal form: each is a conjunction of atoms
abbrev pub disjunctive_clauses : {A : Type 0} → Formula A → List (Clause A)
disjunctive_clauses (Atom a) = (a ∷ []) ∷ []
disjunctive_clauses (And p q) = pairwise (disjunctive_clauses p) (disjunctive_clauses q)
disjunctive_clauses (Or p q) = disjunctive_clauses p ++ disjunctive_clauses q

-- the clauses of the conjunctive normal form: each is a disjunction of atoms
abbrev pub conjunctive_clauses : {A : Type 0} → Formula A → List (Clause A)
conjunctive_clauses (Atom a) = (a ∷ []) ∷ []
conjunctive_clauses (And p q) = conjunctive_clauses p ++ conjunctive_clauses q
conjunctive_clauses (Or p q) = pairwise (conjunctive_clauses p) (conjunctive_clauses q)

-- a disjunctive clause subsumes a conjunctive one if they have an atom in common
abbrev pub shares : {A : Type 0} → (A → A → Bool) → Clause A → Clause A → Bool
shares same c d = list_any (among same c) d

-- P subsumes Q: each disjunctive clause of P subsumes each conjunctive clause of Q
abbrev pub subsumes : {A : Type 0} → (A → A → Bool) → Formula A → Formula A → Bool
subsumes same p q = list_all (λ c. list_all (shares same c) (conjunctive_clauses q)) (disjunctive_clauses p)
