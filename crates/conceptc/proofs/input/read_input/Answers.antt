use Rattle.std.proofs.Common.{arith}
use Rattle.std.proofs.lemmas.Result.{err_from_is_err_and}
use Rattle.conceptc.proofs.ReadingLemmas.{goes_on, stops}
use Rattle.conceptc.proofs.input.read_input.Goals as goal

pub loop-text-preserved : goal.loop-text-preserved
loop-text-preserved g c =
    let piece = rw c.if-branch.true at c.in_ok-read_more.ensures.piece in
    (omega arith, goes_on (g.S.Source.rest c.args.input.now) (g.S.Source.rest c.loop-text.input) (g.S.Source.rest c.read_more.new.input) (g.S.Source.faults c.args.input.now) (g.S.Source.faults c.loop-text.input) (g.S.Source.faults c.read_more.new.input) c.loop-text.text.items c.read_more.new.text.items c.loop-text.invariant.1 piece c.in_ok-read_more.ensures.never_falls)

pub returns-in_err-read_more-clause-cause : goal.returns-in_err-read_more-clause-cause
returns-in_err-read_more-clause-cause g c =
    let p = err_from_is_err_and c.from_residual.result c.from_residual.ensures.1 in
    rw (p.1, p.2) (stops (g.S.Source.rest c.args.input.now) (g.S.Source.rest c.loop-text.input) (g.S.Source.rest c.read_more.new.input) (g.S.Source.faults c.args.input.now) (g.S.Source.faults c.loop-text.input) (g.S.Source.faults c.read_more.new.input) c.loop-text.text.items c.in_err-read_more.field-0.0 c.loop-text.invariant.1 c.in_err-read_more.ensures.piece)
