use Rattle.std.proofs.Common.{◌∙◌}
use Rattle.cx_lexer.specs.Words.{reserved_words}
use Rattle.cx_lexer.proofs.WordList.{has_word-by_length}
use Rattle.cx_lexer.proofs.words.is_reserved.Goals as goal

pub returns : goal.returns
returns c = c.has_word.ensures ∙ has_word-by_length c.words_of.result.now reserved_words c.args.text.now c.words_of.ensures
