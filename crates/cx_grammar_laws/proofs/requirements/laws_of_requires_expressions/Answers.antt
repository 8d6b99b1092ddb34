use Rattle.cx_grammar_laws.proofs.RequiresLaws.{requires_laws, requires_tokens}
use Rattle.cx_grammar_laws.proofs.requirements.laws_of_requires_expressions.Goals as goal

pub returns : goal.returns
returns c = record { laws = requires_laws; tokens = requires_tokens }
