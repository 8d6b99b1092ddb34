use Rattle.std.proofs.Common.{◌≤◌, length}
use Rattle.cx_prop.specs.Table.{Has}
use Rattle.formula_text.proofs.conjunction.Given as goal

abbrev pub invariant-loop-n : goal.invariant-loop-n
invariant-loop-n l = Has l.formulas l.all × (length l.fn.formulas ≤ length l.formulas)
