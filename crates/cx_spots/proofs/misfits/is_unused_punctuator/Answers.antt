use Rattle.std.proofs.Common.{◌∙◌, ap, List, ℕ}
use Rattle.cx_lexer.specs.Words.{has_word}
use Rattle.cx_spots.proofs.WordList.{has_word_listed}
use Rattle.cx_spots.proofs.misfits.is_unused_punctuator.Goals as goal

pub returns : goal.returns
returns c =
    c.has_word.ensures ∙ has_word_listed c.unused_punctuators.result.now c.args.text.now
    ∙ ap (λ (words : List (List ℕ)). has_word words c.args.text.now) c.unused_punctuators.ensures
