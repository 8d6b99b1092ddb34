use Rattle.std.proofs.Common.{sym, ◌∙◌}
use Rattle.std.specs.Str.{chars}
use Rattle.cx_lexer.proofs.Scans.{behind_number_off}
use Rattle.cx_lexer.proofs.scan.behind_number.Goals as goal

pub returns-then-not-continues_number : goal.returns-then-not-continues_number
returns-then-not-continues_number c = sym (behind_number_off c.loop-character.before (chars c.loop-character.rest.now) (chars c.in-Some.behind.now) c.in-Some.character c.in-Some.ensures.parts (sym c.continues_number.ensures ∙ c.if-not-continues_number.true)) ∙ c.loop-character.invariant.goes_on
