use Rattle.cx_grammar_laws.proofs.RequiresLaws.{requirement_numbers}
use Rattle.cx_grammar_laws.proofs.requirements.numbers_of_requirements.Goals as goal

pub returns : goal.returns
returns c = record { numbers = requirement_numbers }
