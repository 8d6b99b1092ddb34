use Rattle.std.proofs.Common.{◌≡◌, ◌++◌, map, take}
use Rattle.std.specs.Prelude.{string_bytes}
use Rattle.cx_plain_language.specs.Tree.{literals}
use Rattle.cx_plain_language.specs.View.{unit_view, literal_view}
use Rattle.cx_plain_language.specs.Text.{joined, literals_texts}
use Rattle.cx_plain_language.proofs.units.+literals.Given as goal

abbrev pub invariant-put_literals-loop-index : goal.invariant-put_literals-loop-index
invariant-put_literals-loop-index l = string_bytes l.out ≡ string_bytes l.initial.out ++ joined (literals_texts (unit_view l.unit) (literals (map literal_view (take l.index l.items))))
