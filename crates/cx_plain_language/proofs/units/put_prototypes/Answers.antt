use Rattle.std.specs.Prelude.{string_bytes}
use Rattle.cx_plain_language.specs.View.{unit_view, fn_view}
use Rattle.cx_plain_language.specs.Text.{prototype_text}
use Rattle.cx_plain_language.proofs.Numbers.{none_yet, each_more}
use Rattle.cx_plain_language.proofs.units.put_prototypes.Goals as goal

pub loop-number-init : goal.loop-number-init
loop-number-init c = none_yet (prototype_text (unit_view c.args.unit.now)) (string_bytes c.args.out.now)

pub loop-number-preserved : goal.loop-number-preserved
loop-number-preserved c =
    each_more fn_view (prototype_text (unit_view c.args.unit.now)) c.args.functions.now c.loop-number.number c.index-functions-number.result (string_bytes c.args.out.now) (string_bytes c.loop-number.out) (string_bytes c.put_prototype.new.out)
    c.loop-number-test.true c.index-functions-number.is c.loop-number.invariant c.in_ok-put_prototype.ensures
