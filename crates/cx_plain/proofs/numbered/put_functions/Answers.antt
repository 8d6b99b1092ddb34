use Rattle.std.proofs.Common.{length}
use Rattle.std.specs.Prelude.{string_bytes, map}
use Rattle.cx_plain.specs.PlainTree.{function_view}
use Rattle.cx_plain.specs.PlainText.{function_text}
use Rattle.cx_plain.specs.PlainTyping.{IsTypedFunction}
use Rattle.cx_plain.proofs.ListText.{none_yet, one_more, each_at}
use Rattle.cx_plain.proofs.numbered.put_functions.Goals as goal

pub loop-number-init : goal.loop-number-init
loop-number-init c = none_yet (function_text (map function_view c.args.functions.now)) (string_bytes c.args.out.now)

pub loop-number-preserved : goal.loop-number-preserved
loop-number-preserved c =
    one_more (function_text (map function_view c.args.functions.now)) _ _ _ c.loop-number.number c.args.functions.now c.index-functions-number.result c.loop-number-test.true c.index-functions-number.is c.loop-number.invariant c.in_ok-put_function.ensures

pub put_function-requires : goal.put_function-requires
put_function-requires c = each_at (IsTypedFunction (length c.args.functions.now)) c.args.functions.now c.loop-number.number c.index-functions-number.result c.loop-number-test.true c.index-functions-number.is c.requires
