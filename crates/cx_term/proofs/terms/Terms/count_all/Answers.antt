use Rattle.cx_term.proofs.Counting.{CountsList-none, CountsList-next}
use Rattle.cx_term.proofs.terms.Terms.count_all.Goals as goal

pub loop-t-init : goal.loop-t-init
loop-t-init c = CountsList-none _ _ c.none-total.ensures.nodes c.none-total.ensures.depth

pub loop-t-preserved : goal.loop-t-preserved
loop-t-preserved c =
    let h = c.and-total.ensures in
    let k = c.stored.ensures in
    CountsList-next c.loop-t.total c.stored.result.1 _ _ _ c.loop-t.t-index _ c.loop-t-test.true c.loop-t.invariant k.counts k.shallow h.nodes h.depth
