use Rattle.cx_tree.specs.Trees.{expr_tree}
use Rattle.cx_spots.specs.Spots.{context_of, at}
use Rattle.cx_parse_expr.specs.Asks.{Answers}
use Rattle.cx_parse_expr.proofs.Asked.{read_expr}
use Rattle.cx_parse_expr.proofs.deeper.unary.Goals as goal

pub only_expr-requires : goal.only_expr-requires
unfolding Answers
only_expr-requires g c = (c.put-reply.ensures.0, c.put-reply.ensures.1)

pub returns-clause-exact : goal.returns-clause-exact
unfolding Answers
returns-clause-exact g c = (read_expr expr_tree 4 ((at (context_of c.args.context)).unary (context_of c.args.context)) c.args.spot c.put-reply.result c.only_expr.result c.put-reply.ensures c.only_expr.ensures).0

pub returns-clause-lightens : goal.returns-clause-lightens
unfolding Answers
returns-clause-lightens g c = (read_expr expr_tree 4 ((at (context_of c.args.context)).unary (context_of c.args.context)) c.args.spot c.put-reply.result c.only_expr.result c.put-reply.ensures c.only_expr.ensures).1
