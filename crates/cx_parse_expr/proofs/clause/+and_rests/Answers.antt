use Rattle.std.proofs.Common.{sym, subst, arith}
use Rattle.cx_tree.specs.Trees.{expr_tree}
use Rattle.cx_grammar.specs.Types.{Below}
use Rattle.cx_spots.specs.Spots.{ReadsNode, context_of}
use Rattle.cx_parse_expr.proofs.Knot.{knot}
use Rattle.cx_parse_expr.proofs.clause.+and_rests.Goals as goal

pub and_rest-returns-clause-exact : goal.and_rest-returns-clause-exact
and_rest-returns-clause-exact n c = subst (λ (b : Below). ReadsNode expr_tree (λ n. b.and_rest (context_of c.args.context) (expr_tree c.args.left, n)) c.args.spot c.and_rest_here.result) (sym (knot (context_of c.args.context) (omega (arith, c.requires.load)))) c.and_rest_here.ensures.exact
