use Rattle.std.proofs.Common.{ap, ◌∙◌}
use Rattle.cx_scope.specs.Frames.{left}
use Rattle.cx_statements.specs.StatementViews.{for_init}
use Rattle.cx_parse_stmt.proofs.Behind.{left_init}
use Rattle.cx_parse_stmt.proofs.head.for_head.Goals as goal

pub returns-clause-outer : goal.returns-clause-outer
returns-clause-outer c = ap left c.in_ok-note_init.ensures.ok ∙ left_init c.args.scope.now (for_init c.in_ok-init.init)
