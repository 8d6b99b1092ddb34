use Rattle.cx_parse_expr.specs.declared.ask.Reply.TheVariants as reply
use Rattle.cx_parse_expr.proofs.Asked.{tagged}
use Rattle.cx_parse_expr.proofs.ask.only_type.Goals as goal

pub type_syn-requires : goal.type_syn-requires
type_syn-requires c = tagged reply.Type c.requires.0 c.args.read c.in_ok-reply.reply c.in_ok-reply.spot c.requires.1 c.in_ok-reply.was
