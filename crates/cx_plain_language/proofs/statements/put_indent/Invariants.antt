use Rattle.std.proofs.Common.{◌≡◌, ◌++◌}
use Rattle.std.specs.Prelude.{string_bytes}
use Rattle.cx_plain_language.specs.Text.{indent}
use Rattle.cx_plain_language.proofs.statements.put_indent.Given as goal

abbrev pub invariant-loop-brace : goal.invariant-loop-brace
invariant-loop-brace l = string_bytes l.out ≡ string_bytes l.initial.out ++ indent l._brace
