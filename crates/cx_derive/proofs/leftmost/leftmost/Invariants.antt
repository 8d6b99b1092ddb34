use Rattle.cx_derive.proofs.Walks.{Passed}
use Rattle.cx_derive.proofs.leftmost.leftmost.Given as goal

abbrev pub invariant-loop-at : goal.invariant-loop-at
invariant-loop-at l = Passed l.formulas l.list l.at
