use Rattle.std.proofs.Common.{◌≡◌, ◌++◌, map, take}
use Rattle.std.specs.Prelude.{string_bytes}
use Rattle.cx_plain_language.specs.View.{unit_view, struct_view}
use Rattle.cx_plain_language.specs.Text.{concatenated, numbered, struct_text}
use Rattle.cx_plain_language.proofs.units.put_structs.Given as goal

abbrev pub invariant-loop-number : goal.invariant-loop-number
invariant-loop-number l = string_bytes l.out ≡ string_bytes l.initial.out ++ concatenated (numbered (struct_text (unit_view l.unit)) 0 (map struct_view (take l.number l.structs)))
