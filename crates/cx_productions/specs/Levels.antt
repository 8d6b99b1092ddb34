-- The productions of expressions, tied: what stands within them is they themselves again.
use Rattle.std.specs.Prelude.{ℕ, zero, suc}
use Rattle.cx_syntax.specs.Productions.{closed}
use Rattle.cx_productions.specs.Below.{Below}
use Rattle.cx_productions.specs.Expressions.{expr}
use Rattle.cx_productions.specs.Arguments.{argument}

-- The productions whose constructs are nested so many levels deep at most.
unfoldable pub levels : ℕ → Below
levels zero = record { expr = λ level c. closed; argument = λ c. closed }
levels (suc n) = record { expr = expr (levels n); argument = argument (levels n) }
