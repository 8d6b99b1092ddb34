use Rattle.std.proofs.Common.{arith}
use Rattle.std.proofs.lemmas.Result.{err_from_is_err_and}
use Rattle.cx_tree.specs.Trees.{expr_tree}
use Rattle.cx_spots.specs.Spots.{below, context_of, left_at}
use Rattle.cx_parse_expr.proofs.Rests.{rests_fails}
use Rattle.cx_parse_expr.proofs.binary.rests.Goals as goal

pub returns-in_err-more-clause-exact : goal.returns-in_err-more-clause-exact
returns-in_err-more-clause-exact g c =
    let p = err_from_is_err_and c.from_residual.result c.from_residual.ensures.1 in
    rw (p.1, p.2) (rests_fails (below (context_of c.args.context)) c.levels.level c.args.levels (context_of c.args.context) (expr_tree c.args.operand, c.args.spot.next) (expr_tree c.levels.left, c.levels.spot.next) (left_at c.args.spot) (left_at c.levels.spot) _ (omega (arith, c.levels-test.true)) c.levels.invariant.so_far c.in_err-more.ensures.exact)
