use Rattle.cx_grammar_laws.proofs.RequiresLaws.{requires_numbers}
use Rattle.cx_grammar_laws.proofs.requirements.numbers_of_requires_expressions.Goals as goal

pub returns : goal.returns
returns c = record { numbers = requires_numbers }
