use Rattle.cx_syntax.specs.declared.stopped.Stopped.TheVariants.{Ended, Exhausted}
use Rattle.std.proofs.Common.{sym, ◌∙◌}
use Rattle.cx_read_stmt.proofs.Levels.{ended, exhausted}
use Rattle.cx_read_stmt.proofs.statement.closed.Goals as goal

pub returns-then-begins_another : goal.returns-then-begins_another
returns-then-begins_another c = exhausted c.args.cursor.now.names c.args.cursor.now.left (sym c.begins_another.ensures ∙ c.if-begins_another.true)

pub returns-else-begins_another : goal.returns-else-begins_another
returns-else-begins_another c = ended c.args.cursor.now.names c.args.cursor.now.left (sym c.begins_another.ensures ∙ c.if-begins_another.false)
