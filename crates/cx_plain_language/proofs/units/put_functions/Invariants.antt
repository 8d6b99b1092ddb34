use Rattle.std.proofs.Common.{◌≡◌, ◌++◌, map, take}
use Rattle.std.specs.Prelude.{string_bytes}
use Rattle.cx_plain_language.specs.View.{unit_view, fn_view}
use Rattle.cx_plain_language.specs.Text.{concatenated, numbered, function_text}
use Rattle.cx_plain_language.proofs.units.put_functions.Given as goal

abbrev pub invariant-loop-number : goal.invariant-loop-number
invariant-loop-number l = string_bytes l.out ≡ string_bytes l.initial.out ++ concatenated (numbered (function_text (unit_view l.unit)) 0 (map fn_view (take l.number l.functions)))
