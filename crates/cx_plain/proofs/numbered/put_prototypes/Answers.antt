use Rattle.std.specs.Prelude.{string_bytes}
use Rattle.cx_plain.specs.PlainText.{prototype_text}
use Rattle.cx_plain.proofs.ListText.{none_yet, one_more}
use Rattle.cx_plain.proofs.numbered.put_prototypes.Goals as goal

pub loop-number-init : goal.loop-number-init
loop-number-init c = none_yet prototype_text (string_bytes c.args.out.now)

pub loop-number-preserved : goal.loop-number-preserved
loop-number-preserved c =
    one_more prototype_text _ _ _ c.loop-number.number c.args.functions.now c.index-functions-number.result c.loop-number-test.true c.index-functions-number.is c.loop-number.invariant c.in_ok-put_prototype.ensures
