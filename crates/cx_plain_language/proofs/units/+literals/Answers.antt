use Rattle.std.specs.Prelude.{string_bytes}
use Rattle.cx_plain_language.specs.View.{unit_view}
use Rattle.cx_plain_language.proofs.LiteralTexts.{none_yet, next_literal}
use Rattle.cx_plain_language.proofs.units.+literals.Goals as goal

pub put_literals-loop-index-init : goal.put_literals-loop-index-init
put_literals-loop-index-init t c = none_yet (unit_view c.args.unit.now) (string_bytes c.args.out.now)

pub put_literals-loop-index-preserved : goal.put_literals-loop-index-preserved
put_literals-loop-index-preserved t c =
    next_literal (unit_view c.args.unit.now) c.args.items.now c.loop-index.index c.index-items-index.result (string_bytes c.args.out.now) (string_bytes c.loop-index.out) (string_bytes c.put_literal.new.out)
    c.loop-index-test.true c.index-items-index.is c.loop-index.invariant (rw (c.in_ok-push_str.ensures.bytes, c.comma.ensures) at c.in_ok-put_literal.ensures)
