use Rattle.cx_grammar_laws.proofs.RequiresLaws.{requirement_laws, requirement_tokens}
use Rattle.cx_grammar_laws.proofs.requirements.laws_of_requirements.Goals as goal

pub returns : goal.returns
returns c = record { laws = requirement_laws; tokens = requirement_tokens }
