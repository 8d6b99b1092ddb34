use Rattle.cx_grammar_laws.proofs.NodeLaws.{unit_numbers}
use Rattle.cx_grammar_laws.proofs.numbers.numbers_of_units.Goals as goal

pub returns : goal.returns
returns c = record { numbers = unit_numbers }
