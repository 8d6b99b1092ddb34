use Rattle.std.proofs.Common.{sym, ◌∙◌}
use Rattle.std.specs.Str.{chars}
use Rattle.cx_lexer.proofs.Scans.{behind_string_newline, behind_string_closed}
use Rattle.cx_lexer.proofs.scan.behind_string.Goals as goal

pub returns-then-character-eq10 : goal.returns-then-character-eq10
returns-then-character-eq10 c = sym (behind_string_newline c.loop-character.escaped (chars c.loop-character.rest.now) (chars c.in-Some.behind.now) c.in-Some.character c.in-Some.ensures.parts c.if-character-eq10.true) ∙ c.loop-character.invariant.goes_on

pub returns-then-closes_string : goal.returns-then-closes_string
returns-then-closes_string c = sym (behind_string_closed c.loop-character.escaped (chars c.loop-character.rest.now) (chars c.in-Some.behind.now) c.in-Some.character c.in-Some.ensures.parts c.if-character-eq10.false (sym c.closes_string.ensures ∙ c.if-closes_string.true)) ∙ c.loop-character.invariant.goes_on
