use Rattle.std.proofs.Common.{sym, ◌∙◌}
use Rattle.std.specs.Str.{chars}
use Rattle.cx_lexer.proofs.Scans.{behind_name_off}
use Rattle.cx_lexer.proofs.scan.behind_name.Goals as goal

pub returns-then-not-continues_name : goal.returns-then-not-continues_name
returns-then-not-continues_name c = sym (behind_name_off (chars c.loop-character.rest.now) (chars c.in-Some.behind.now) c.in-Some.character c.in-Some.ensures.parts (sym c.continues_name.ensures ∙ c.if-not-continues_name.true)) ∙ c.loop-character.invariant.goes_on
