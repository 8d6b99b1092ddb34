-- How the parts of an evaluation follow one another, and what they do with the steps that are left.
use Rattle.std.specs.Prelude.{ℕ, zero, suc, ℤ, Option, Some, None}
use Rattle.cx_base.specs.Outcome.{Outcome, Returned, Undefined, Running}

-- What comes next has the value and the steps that were left. It does not come to pass where there is no value.
abbrev pub and_then : Outcome → (ℤ → ℕ → Outcome) → Outcome
and_then (Returned value left) next = next value left
and_then Undefined next = Undefined
and_then Running next = Running

-- what an operation gives; it takes no step
abbrev pub given : Option ℤ → ℕ → Outcome
given None left = Undefined
given (Some value) left = Returned value left

-- a body that is called: the call takes one step
abbrev pub called : (ℕ → Outcome) → ℕ → Outcome
called body zero = Running
called body (suc left) = body left
