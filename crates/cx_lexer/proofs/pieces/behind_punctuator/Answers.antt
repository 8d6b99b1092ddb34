use Rattle.std.proofs.Common.{ap, List, ℕ}
use Rattle.std.specs.Str.{chars}
use Rattle.cx_lexer.specs.Reading.{behind_first, behind_punctuator}
use Rattle.cx_lexer.proofs.pieces.behind_punctuator.Goals as goal

pub loop-word-init : goal.loop-word-init
unfolding behind_punctuator
loop-word-init c = ap (λ (ws : List (List ℕ)). behind_first ws (chars c.args.text.now)) c.punctuators-word-items.ensures
