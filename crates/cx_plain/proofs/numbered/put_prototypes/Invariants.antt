use Rattle.std.proofs.Common.{◌≡◌, ◌++◌, take}
use Rattle.std.specs.Prelude.{string_bytes, map}
use Rattle.cx_plain.specs.PlainTree.{function_view}
use Rattle.cx_plain.specs.PlainText.{numbered, prototype_text}
use Rattle.cx_plain.proofs.numbered.put_prototypes.Given as goal

abbrev pub invariant-loop-number : goal.invariant-loop-number
invariant-loop-number l = string_bytes l.out ≡ string_bytes l.initial.out ++ numbered prototype_text 0 (map function_view (take l.number l.functions))
