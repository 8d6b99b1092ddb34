use Rattle.cx_grammar.proofs.NumberLaws.{type_numbers}
use Rattle.cx_grammar.proofs.laws.numbers_of_types.Goals as goal

pub returns : goal.returns
returns c = record { numbers = type_numbers }
