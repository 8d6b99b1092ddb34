use Rattle.cx_spots.specs.Views.{placed_core}
use Rattle.cx_spots.specs.Spots.{context_of, at}
use Rattle.cx_parse_expr.specs.Asks.{Answers}
use Rattle.cx_parse_expr.proofs.Asked.{read_core}
use Rattle.cx_parse_expr.proofs.deeper.core.Goals as goal

pub only_core-requires : goal.only_core-requires
unfolding Answers
only_core-requires g c = (c.put-reply.ensures.0, c.put-reply.ensures.1)

pub returns-clause-exact : goal.returns-clause-exact
unfolding Answers
returns-clause-exact g c = (read_core placed_core 8 ((at (context_of c.args.context)).core (context_of c.args.context)) c.args.spot c.put-reply.result c.only_core.result c.put-reply.ensures c.only_core.ensures).0

pub returns-clause-lightens : goal.returns-clause-lightens
unfolding Answers
returns-clause-lightens g c = (read_core placed_core 8 ((at (context_of c.args.context)).core (context_of c.args.context)) c.args.spot c.put-reply.result c.only_core.result c.put-reply.ensures c.only_core.ensures).1
