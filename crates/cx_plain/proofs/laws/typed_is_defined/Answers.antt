use Rattle.cx_plain.proofs.TypedRuns.{undefined_fails, returns_int}
use Rattle.cx_plain.proofs.laws.typed_is_defined.Goals as goal

pub returns-clause-undefined : goal.returns-clause-undefined
returns-clause-undefined c = undefined_fails

pub returns-clause-ints : goal.returns-clause-ints
returns-clause-ints c = returns_int
