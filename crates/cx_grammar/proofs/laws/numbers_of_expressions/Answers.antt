use Rattle.cx_grammar.proofs.NumberLaws.{expr_numbers}
use Rattle.cx_grammar.proofs.laws.numbers_of_expressions.Goals as goal

pub returns : goal.returns
returns c = record { numbers = expr_numbers }
