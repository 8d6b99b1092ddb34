use Rattle.std.proofs.Common.{◌≡◌, ◌++◌, map, drop}
use Rattle.std.specs.Prelude.{string_bytes}
use Rattle.cx_plain_language.specs.Tree.{stmts}
use Rattle.cx_plain_language.specs.View.{unit_view, fn_view, stmt_view}
use Rattle.cx_plain_language.specs.Text.{stmts_text}
use Rattle.cx_plain_language.proofs.statements.+bodies.Given as goal

abbrev pub invariant-put_stmts-loop-stmt : goal.invariant-put_stmts-loop-stmt
invariant-put_stmts-loop-stmt l =
    string_bytes l.out ++ stmts_text (unit_view l.unit) (fn_view l.function) l.depth (stmts (map stmt_view (drop l.stmt-index l.body)))
    ≡ string_bytes l.initial.out ++ stmts_text (unit_view l.unit) (fn_view l.function) l.depth (stmts (map stmt_view l.body))
