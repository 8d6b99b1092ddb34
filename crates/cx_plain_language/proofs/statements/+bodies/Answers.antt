use Rattle.std.proofs.Common.{arith}
use Rattle.std.specs.Prelude.{string_bytes, length, ◌≤◌}
use Rattle.cx_plain_language.specs.View.{unit_view, fn_view}
use Rattle.cx_plain_language.proofs.StmtTexts.{next_stmt, no_more}
use Rattle.cx_plain_language.proofs.statements.+bodies.Goals as goal

pub put_stmts-loop-stmt-preserved : goal.put_stmts-loop-stmt-preserved
put_stmts-loop-stmt-preserved t c =
    next_stmt (unit_view c.args.unit.now) (fn_view c.args.function.now) c.args.depth c.args.body.now c.loop-stmt.stmt-index c.stmt-item.result (string_bytes c.loop-stmt.out) (string_bytes c.put_stmt.new.out) _
    c.loop-stmt-test.true c.stmt-item.is c.loop-stmt.invariant c.in_ok-put_stmt.ensures

pub put_stmts-returns : goal.put_stmts-returns
put_stmts-returns t c =
    let all : length c.args.body.now ≤ c.loop-stmt.stmt-index = omega (arith, c.loop-stmt-test.false) in
    no_more (unit_view c.args.unit.now) (fn_view c.args.function.now) c.args.depth c.args.body.now c.loop-stmt.stmt-index (string_bytes c.loop-stmt.out) _ all c.loop-stmt.invariant
