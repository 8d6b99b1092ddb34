use Rattle.std.specs.Prelude.{string_bytes}
use Rattle.cx_plain_language.specs.View.{unit_view, fn_view}
use Rattle.cx_plain_language.proofs.ExprTexts.{none_yet, next_expr}
use Rattle.cx_plain_language.proofs.expressions.+printing.Goals as goal

pub put_exprs-loop-index-init : goal.put_exprs-loop-index-init
put_exprs-loop-index-init t c = none_yet (unit_view c.args.unit.now) (fn_view c.args.function.now) (string_bytes c.args.out.now)

pub put_exprs-loop-index-preserved : goal.put_exprs-loop-index-preserved
put_exprs-loop-index-preserved t c =
    next_expr (unit_view c.args.unit.now) (fn_view c.args.function.now) c.args.items.now c.loop-index.index c.index-items-index.result (string_bytes c.args.out.now) (string_bytes c.loop-index.out) (string_bytes c.put_around.new.out)
    c.loop-index-test.true c.index-items-index.is c.loop-index.invariant (rw c.comma.ensures at c.in_ok-put_around.ensures)
