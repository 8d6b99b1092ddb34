use Rattle.cx_tree.specs.Trees.{argument_tree}
use Rattle.cx_spots.specs.Spots.{context_of, at}
use Rattle.cx_parse_expr.specs.Asks.{Answers}
use Rattle.cx_parse_expr.proofs.Asked.{read_argument}
use Rattle.cx_parse_expr.proofs.deeper.argument.Goals as goal

pub only_argument-requires : goal.only_argument-requires
unfolding Answers
only_argument-requires g c = (c.put-reply.ensures.0, c.put-reply.ensures.1)

pub returns-clause-exact : goal.returns-clause-exact
unfolding Answers
returns-clause-exact g c = (read_argument argument_tree 4 ((at (context_of c.args.context)).argument (context_of c.args.context)) c.args.spot c.put-reply.result c.only_argument.result c.put-reply.ensures c.only_argument.ensures).0

pub returns-clause-lightens : goal.returns-clause-lightens
unfolding Answers
returns-clause-lightens g c = (read_argument argument_tree 4 ((at (context_of c.args.context)).argument (context_of c.args.context)) c.args.spot c.put-reply.result c.only_argument.result c.put-reply.ensures c.only_argument.ensures).1
