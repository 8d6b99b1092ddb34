use Rattle.std.proofs.Common.{sym, ◌∙◌}
use Rattle.std.specs.Str.{chars}
use Rattle.cx_lexer.proofs.Skips.{token_operator}
use Rattle.cx_lexer.proofs.pieces.behind_token.Goals as goal

pub returns-else-first-eq34 : goal.returns-else-first-eq34
returns-else-first-eq34 c = c.behind_operator.ensures ∙ sym (token_operator (chars c.args.text.now) (chars c.in-Some.behind.now) c.in-Some.first c.in-Some.ensures.parts (sym c.begins_name.ensures ∙ c.if-begins_name.false) (sym c.is_digit.ensures ∙ c.if-is_digit.false) c.if-first-eq34.false)
