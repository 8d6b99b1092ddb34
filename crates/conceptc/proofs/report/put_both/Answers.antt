use Rattle.std.proofs.lemmas.Result.{err_from_is_err_and}
use Rattle.conceptc.proofs.PutsLemmas.{taken, behind, stopped}
use Rattle.conceptc.proofs.report.put_both.Goals as goal

pub returns-in_err-put_text : goal.returns-in_err-put_text
returns-in_err-put_text g c =
    let p = err_from_is_err_and c.from_residual.result c.from_residual.ensures.1 in
    rw p.1 (stopped _ _ _ _ c.args.first.now c.args.second.now c.in_err-put_text.field-0.0 _ c.in_err-put_text.ensures)

pub returns : goal.returns
returns g c = behind _ _ _ _ _ _ c.args.first.now c.args.second.now c.put_text-2.result (taken _ _ _ _ c.in_ok-put_text.field-0 c.args.first.now c.in_ok-put_text.ensures) c.put_text-2.ensures
