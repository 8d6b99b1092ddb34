-- What comes of a run that has a number of steps. A step is a call of a function.
use Rattle.std.specs.Prelude.{ℕ, ℤ}

-- Returned: the function gave this value, and so many steps are left.
-- Undefined: it did what has no meaning.
-- Running: no step is left for what comes next.
pub data Outcome : Type 0 where
  Returned : (value : ℤ) → (left : ℕ) → Outcome
  Undefined : Outcome
  Running : Outcome
