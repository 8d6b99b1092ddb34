-- The order of declarations by their constraints ([temp.constr.order]).
use Rattle.std.specs.Prelude.{ℕ, ◌*◌, Bool, true, false, not, ◌&&◌, ◌||◌, nat_lt, Option, Some, None}
use Rattle.cx_prop.specs.Counting.{disjunctive, conjunctive}
use Rattle.cx_prop.specs.Formula.{Atomic, same_atomic}
use Rattle.cx_term.specs.Term.{Term}
use Rattle.cx_term.specs.Same.{same_term}
use Rattle.cx_questions.specs.Entailment.{entails}
use Rattle.cx_questions.specs.Environments.{Form}

-- whether two atomic constraints are identical: the same appearance of an expression, and equal targets
abbrev pub identical : Atomic Term → Atomic Term → Bool
identical = same_atomic same_term

-- whether a normal form subsumes another
abbrev pub form_entails : Form → Form → Bool
form_entails = entails identical

-- Whether a declaration with the first normal form is at least as constrained as one with the second, None being no
-- constraints.
abbrev pub at_least_as_constrained : Option Form → Option Form → Bool
at_least_as_constrained p None = true
at_least_as_constrained None (Some q) = false
at_least_as_constrained (Some p) (Some q) = form_entails p q

-- more constrained: this one way only
abbrev pub more_constrained : Option Form → Option Form → Bool
more_constrained p q = at_least_as_constrained p q && not (at_least_as_constrained q p)

-- the clauses that are compared where the first is tried for subsuming the second pass a limit
abbrev pub passes_clauses : (clauses : ℕ) → Form → Form → Bool
passes_clauses clauses p q = nat_lt clauses (disjunctive p * conjunctive q)

-- two declarations cannot be compared by constraints within the limit
abbrev pub too_many_clauses : (clauses : ℕ) → Option Form → Option Form → Bool
too_many_clauses clauses (Some p) (Some q) = passes_clauses clauses p q || passes_clauses clauses q p
too_many_clauses clauses _ _ = false
