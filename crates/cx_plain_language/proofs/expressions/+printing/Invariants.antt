use Rattle.std.proofs.Common.{◌≡◌, ◌++◌, map, take}
use Rattle.std.specs.Prelude.{string_bytes}
use Rattle.cx_plain_language.specs.Tree.{exprs}
use Rattle.cx_plain_language.specs.View.{unit_view, fn_view, expr_view}
use Rattle.cx_plain_language.specs.Text.{joined, exprs_texts}
use Rattle.cx_plain_language.proofs.expressions.+printing.Given as goal

abbrev pub invariant-put_exprs-loop-index : goal.invariant-put_exprs-loop-index
invariant-put_exprs-loop-index l = string_bytes l.out ≡ string_bytes l.initial.out ++ joined (exprs_texts (unit_view l.unit) (fn_view l.function) (exprs (map expr_view (take l.index l.items))))
