use Rattle.std.proofs.Common.{◌∙◌}
use Rattle.cx_lexer.specs.Words.{alternative_tokens}
use Rattle.cx_lexer.proofs.WordList.{has_word-listed}
use Rattle.cx_lexer.proofs.words.is_alternative.Goals as goal

pub returns : goal.returns
returns c = c.has_word.ensures ∙ has_word-listed c.alternatives.result.now alternative_tokens c.args.text.now c.alternatives.ensures
