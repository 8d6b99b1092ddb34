use Rattle.std.proofs.Common.{◌+◌, ◌*◌, ◌-◌}
use Rattle.cx_parse_expr.proofs.engine.+engine.Given as goal

-- each question is asked by a call that another question was asked by
abbrev pub decreases-read : goal.decreases-read
decreases-read l = 2 * (264 - l.asked.context.load)

abbrev pub decreases-answer : goal.decreases-answer
decreases-answer l = 2 * (264 - (l.load + 1)) + 1
