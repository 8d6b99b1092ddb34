use Rattle.std.proofs.Common.{◌≡◌, length, drop, map}
use Rattle.std.specs.Str.{chars}
use Rattle.cx_lexer.specs.Tokens.{token_tree}
use Rattle.cx_lexer.specs.Reading.{spot, start_of, tokens_from, joined}
use Rattle.cx_lexer.proofs.lexing.lex_text.Given as goal

abbrev pub invariant-reading : goal.invariant-reading
invariant-reading l = record {
  src : l.cursor.src.now ≡ l.fn.src;
  goes_on : joined (map token_tree l.tokens.items) (tokens_from (spot l.fn.src l.cursor.from)) ≡ tokens_from (start_of l.fn.src);
}

abbrev pub decreases-reading : goal.decreases-reading
decreases-reading l = length (chars (drop l.cursor.from l.cursor.src.now))
