use Rattle.cx_parse_expr.specs.declared.ask.Reply.TheVariants as reply
use Rattle.cx_parse_expr.proofs.Asked.{tagged}
use Rattle.cx_parse_expr.proofs.ask.only_core.Goals as goal

pub core-requires : goal.core-requires
core-requires c = tagged reply.Core c.requires.0 c.args.read c.in_ok-reply.reply c.in_ok-reply.spot c.requires.1 c.in_ok-reply.was
