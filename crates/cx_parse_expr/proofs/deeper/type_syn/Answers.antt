use Rattle.cx_tree.specs.Trees.{type_tree}
use Rattle.cx_spots.specs.Spots.{context_of, at}
use Rattle.cx_parse_expr.specs.Asks.{Answers}
use Rattle.cx_parse_expr.proofs.Asked.{read_type}
use Rattle.cx_parse_expr.proofs.deeper.type_syn.Goals as goal

pub only_type-requires : goal.only_type-requires
unfolding Answers
only_type-requires g c = (c.put-reply.ensures.0, c.put-reply.ensures.1)

pub returns-clause-exact : goal.returns-clause-exact
unfolding Answers
returns-clause-exact g c = (read_type type_tree 4 ((at (context_of c.args.context)).type (context_of c.args.context)) c.args.spot c.put-reply.result c.only_type.result c.put-reply.ensures c.only_type.ensures).0

pub returns-clause-lightens : goal.returns-clause-lightens
unfolding Answers
returns-clause-lightens g c = (read_type type_tree 4 ((at (context_of c.args.context)).type (context_of c.args.context)) c.args.spot c.put-reply.result c.only_type.result c.put-reply.ensures c.only_type.ensures).1
