use Rattle.std.proofs.Common.{◌≡◌, take}
use Rattle.std.specs.Prelude.{map}
use Rattle.cx_plain.specs.PlainTree.{function_view}
use Rattle.cx_engine.specs.Definitions.{definition_tree}
use Rattle.cx_engine.specs.Plain.{plain_function}
use Rattle.cx_engine.proofs.translation.plain_functions.Given as goal

abbrev pub invariant-loop-function : goal.invariant-loop-function
invariant-loop-function l = map function_view l.plain.items ≡ map (plain_function l.names) (map definition_tree (take l.function-index l.functions))
