use Rattle.std.proofs.Common.{sym, ◌∙◌}
use Rattle.std.specs.Str.{chars}
use Rattle.cx_lexer.proofs.Scans.{behind_comment_closed}
use Rattle.cx_lexer.proofs.scan.behind_comment.Goals as goal

pub returns-then-closes_comment : goal.returns-then-closes_comment
returns-then-closes_comment c = sym (behind_comment_closed c.loop-character.star (chars c.loop-character.rest.now) (chars c.in-Some.behind.now) c.in-Some.character c.in-Some.ensures.parts (sym c.closes_comment.ensures ∙ c.if-closes_comment.true)) ∙ c.loop-character.invariant.goes_on
