use Rattle.cx_derive.proofs.Stack.{Going, total}
use Rattle.cx_derive.proofs.search.explore.Given as goal

abbrev pub invariant-loop-task : goal.invariant-loop-task
invariant-loop-task l = Going l.formulas l.fn.found.keys l.fn.goal l.found.keys l.tasks.items

abbrev pub decreases-loop-task : goal.decreases-loop-task
decreases-loop-task l = total l.formulas l.tasks.items
