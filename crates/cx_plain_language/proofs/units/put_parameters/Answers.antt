use Rattle.std.specs.Prelude.{string_bytes}
use Rattle.cx_plain_language.specs.View.{unit_view, declared_view}
use Rattle.cx_plain_language.specs.Text.{declared_text}
use Rattle.cx_plain_language.proofs.Numbers.{none_joined, joined_more}
use Rattle.cx_plain_language.proofs.units.put_parameters.Goals as goal

pub loop-number-init : goal.loop-number-init
loop-number-init c = none_joined (declared_text (unit_view c.args.unit.now)) (string_bytes c.args.out.now)

pub loop-number-preserved : goal.loop-number-preserved
loop-number-preserved c =
    joined_more declared_view (declared_text (unit_view c.args.unit.now)) c.args.parameters.now c.loop-number.number c.index-parameters-number.result (string_bytes c.args.out.now) (string_bytes c.loop-number.out) (string_bytes c.put_declared.new.out)
    c.loop-number-test.true c.index-parameters-number.is c.loop-number.invariant (rw (c.in_ok-push_str.ensures.bytes, c.comma.ensures) at c.in_ok-put_declared.ensures)
