-- The classes of pieces that the parsers ask for, and what they mean.
use Rattle.std.specs.Prelude.{ℕ, ◌+◌, Bool, false}
use Rattle.cx_grammar.specs.Names as names
use Rattle.cx_grammar.specs.Pieces as pieces
use Rattle.cx_grammar.specs.Words as words
use Rattle.cx_grammar.specs.Types.{one_word, closes}
use Rattle.cx_grammar.specs.Expressions.{head_name, core_word, is_step, is_prefix, is_operator, is_assignment, goes_on}
use Rattle.cx_spots.specs.declared.class.Class.{Class}
use Rattle.cx_spots.specs.declared.class.Class.TheVariants as class

abbrev pub meaning : Class → names.Context → pieces.Piece → Bool
meaning (class.Word text) c = words.word text.now
meaning (class.Punct text) c = words.punct text.now
meaning class.AnyName c = words.any_name
meaning (class.Named kind) c = names.kind_name kind c
meaning class.HeadName c = head_name c
meaning class.Literal c = words.literal_token
meaning class.OneWord c = one_word
meaning class.CoreWord c = core_word
meaning class.Closing c = closes (c.angle + 1)
meaning class.GoesOn c = goes_on
meaning class.Step c = is_step
meaning class.Prefix c = is_prefix
meaning (class.Operator level) c = is_operator level c.angle
meaning class.Assignment c = is_assignment c.angle
meaning class.SecondHalf c = words.second_half
meaning class.Nothing c = λ p. false
