use Rattle.cx_lexer.proofs.CharacterLemmas.{behind_word_strips}
use Rattle.cx_lexer.proofs.characters.behind_word.Goals as goal

pub returns : goal.returns
returns c = behind_word_strips c.args.word.now c.args.text.now c.strip_prefix.result c.utf8.word c.utf8.text c.strip_prefix.ensures.cases
