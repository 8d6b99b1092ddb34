use Rattle.cx_grammar_laws.proofs.NodeLaws.{stmt_numbers}
use Rattle.cx_grammar_laws.proofs.numbers.numbers_of_statements.Goals as goal

pub returns : goal.returns
returns c = record { numbers = stmt_numbers }
