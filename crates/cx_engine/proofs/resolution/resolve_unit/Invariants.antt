use Rattle.cx_engine.proofs.ResolutionLemmas.{Resolving}
use Rattle.cx_engine.proofs.resolution.resolve_unit.Given as goal

abbrev pub invariant-loop-function : goal.invariant-loop-function
invariant-loop-function l = Resolving l.functions l.function-index l.names
