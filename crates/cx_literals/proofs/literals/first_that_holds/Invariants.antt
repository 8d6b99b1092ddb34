use Rattle.std.proofs.Common.{◌≡◌, drop}
use Rattle.cx_tokens.specs.Literals.{first_that_holds}
use Rattle.cx_literals.proofs.literals.first_that_holds.Given as goal

abbrev pub invariant-loop-scalar : goal.invariant-loop-scalar
invariant-loop-scalar l = first_that_holds l.value (drop l.scalar-index l.types) ≡ first_that_holds l.value l.fn.types
