use Rattle.std.proofs.Common.{sym, ◌∙◌}
use Rattle.std.specs.Str.{chars}
use Rattle.cx_lexer.proofs.Scans.{behind_line_off}
use Rattle.cx_lexer.proofs.scan.behind_line.Goals as goal

pub returns-then-character-eq10 : goal.returns-then-character-eq10
returns-then-character-eq10 c = sym (behind_line_off (chars c.loop-character.rest.now) (chars c.in-Some.behind.now) c.in-Some.character c.in-Some.ensures.parts c.if-character-eq10.true) ∙ c.loop-character.invariant.goes_on
