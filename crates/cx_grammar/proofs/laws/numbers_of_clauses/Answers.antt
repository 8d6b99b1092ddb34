use Rattle.cx_grammar.proofs.NumberLaws.{clause_numbers}
use Rattle.cx_grammar.proofs.laws.numbers_of_clauses.Goals as goal

pub returns : goal.returns
returns c = record { numbers = clause_numbers }
