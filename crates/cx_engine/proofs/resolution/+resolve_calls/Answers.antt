use Rattle.std.proofs.Common.{◌≡◌, arith}
use Rattle.std.proofs.lemmas.Grind.{common_steps}
use Rattle.std.proofs.lemmas.Result.{err_from_is_err_and}
use Rattle.cx_base.specs.Refusal.{◌>>=◌}
use Rattle.cx_tree.specs.Trees.{expr_tree}
use Rattle.cx_engine.specs.Names.{calls_in, names_called}
use Rattle.cx_engine.proofs.ResolutionLemmas.{names_called_append, Stops-then, binary_calls}
use Rattle.cx_engine.proofs.resolution.+resolve_calls.Goals as goal

pub returns-in_ok-resolve_calls-in-Binary : goal.returns-in_ok-resolve_calls-in-Binary
returns-in_ok-resolve_calls-in-Binary t c = grind (arith, common_steps, names_called_append, binary_calls)

pub returns-in_err-resolve_calls-in-Binary : goal.returns-in_err-resolve_calls-in-Binary
returns-in_err-resolve_calls-in-Binary t c =
    let p = err_from_is_err_and c.from_residual.result c.from_residual.ensures.1 in
    let names = c.args.names.now in
    let left = names_called names (calls_in (expr_tree c.deref-in-Binary.result.now)) in
    let right = names_called names (calls_in (expr_tree c.in-Binary.right.value)) in
    let both : names_called names (calls_in (expr_tree c.args.expr.now)) ≡ (left >>= λ _. right) =
    rw (c.in-Binary.is, binary_calls, c.deref-in-Binary.ensures) (names_called_append names (calls_in (expr_tree c.in-Binary.left.value)) (calls_in (expr_tree c.in-Binary.right.value))) in
    rw (p.1, p.2, both) (Stops-then c.in_err-resolve_calls-in-Binary.field-0.0 left (λ _. right) c.in_err-resolve_calls-in-Binary.ensures)
