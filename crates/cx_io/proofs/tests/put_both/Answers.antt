use Rattle.std.proofs.lemmas.Result.{err_from_is_err_and}
use Rattle.cx_io.proofs.Pieces.{appends_then_front}
use Rattle.cx_io.proofs.tests.put_both.Goals as goal

pub returns-in_err-put-2-clause-err : goal.returns-in_err-put-2-clause-err
returns-in_err-put-2-clause-err g c =
    let p = err_from_is_err_and c.from_residual-in_err-put-2.result c.from_residual-in_err-put-2.ensures.1 in
    rw p.1 (appends_then_front _ _ _ _ _ c.in_ok-put.ensures.bytes c.in_err-put-2.ensures.bytes)
