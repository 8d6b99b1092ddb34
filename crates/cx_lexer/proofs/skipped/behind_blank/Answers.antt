use Rattle.std.proofs.Common.{sym, ◌∙◌}
use Rattle.std.specs.Str.{chars}
use Rattle.cx_lexer.proofs.Skips.{blank_here, blank_not}
use Rattle.cx_lexer.proofs.skipped.behind_blank.Goals as goal

pub returns-then-is_blank : goal.returns-then-is_blank
returns-then-is_blank c = sym (blank_here (chars c.args.text.now) (chars c.in-Some.behind.now) c.in-Some.first c.in-Some.ensures.parts (sym c.is_blank.ensures ∙ c.if-is_blank.true))

pub returns-else-is_blank : goal.returns-else-is_blank
returns-else-is_blank c = sym (blank_not (chars c.args.text.now) (chars c.in-Some.behind.now) c.in-Some.first c.in-Some.ensures.parts (sym c.is_blank.ensures ∙ c.if-is_blank.false))
