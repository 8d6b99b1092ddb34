use Rattle.cx_derive.proofs.Walks.{Passed-more, Passed-all, found_and, found_or}
use Rattle.cx_derive.proofs.leftmost.leftmost.Goals as goal

pub returns-in-And-clause-split : goal.returns-in-And-clause-split
returns-in-And-clause-split c = found_and c.args.formulas.now c.args.list.now c.loop-at.at _ c.loop-at-test.true c.loop-at.invariant c.in-And.p c.in-And.q c.in-And.ensures.top.0

pub returns-in-Or-clause-split : goal.returns-in-Or-clause-split
returns-in-Or-clause-split c = found_or c.args.formulas.now c.args.list.now c.loop-at.at _ c.loop-at-test.true c.loop-at.invariant c.in-Or.p c.in-Or.q c.in-Or.ensures.top.0

pub loop-at-preserved : goal.loop-at-preserved
loop-at-preserved c = Passed-more c.args.formulas.now c.args.list.now c.loop-at.at _ c.loop-at-test.true c.loop-at.invariant _ c.in-Atom.ensures.top.0

pub returns-clause-split : goal.returns-clause-split
returns-clause-split c = Passed-all c.args.formulas.now c.args.list.now c.loop-at.at c.loop-at-test.false c.loop-at.invariant
