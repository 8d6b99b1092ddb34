-- When two reserved words, or two punctuators, are one: `==` on them.
use Rattle.std.specs.Prelude.{Bool}
use denote.Enum.Bare.{sameb}
use Rattle.cx_tokens.specs.declared.word.Word.{Word}
use Rattle.cx_tokens.specs.contracts.word.Word as words
use Rattle.cx_tokens.specs.declared.punctuator.Punctuator.{Punctuator}
use Rattle.cx_tokens.specs.contracts.punctuator.Punctuator as punctuators

unfoldable pub same_word : Word → Word → Bool
same_word = sameb words.the_type

unfoldable pub same_punctuator : Punctuator → Punctuator → Bool
same_punctuator = sameb punctuators.the_type
