use Rattle.std.proofs.Common.{◌≡◌, drop, map}
use Rattle.std.specs.Str.{chars}
use Rattle.cx_lexer.specs.Reading.{behind_first, behind_punctuator}
use Rattle.cx_lexer.proofs.pieces.behind_punctuator.Given as goal

abbrev pub invariant-loop-word : goal.invariant-loop-word
invariant-loop-word l = behind_first (map (λ word. word.now) (drop l.word-index l.word-items)) (chars l.text) ≡ behind_punctuator (chars l.text)
