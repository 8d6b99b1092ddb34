use Rattle.std.proofs.Common.{take}
use Rattle.cx_term.specs.Table.{tree_at}
use Rattle.cx_term.proofs.Counting.{CountsList}
use Rattle.cx_term.proofs.terms.Terms.count_all.Given as goal

abbrev pub invariant-loop-t : goal.invariant-loop-t
invariant-loop-t l = CountsList l.total (tree_at l.self) (take l.t-index l.args)
