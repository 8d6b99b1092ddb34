use Rattle.cx_grammar.proofs.GrammarLaws.{unit_laws, unit_tokens}
use Rattle.cx_grammar.proofs.laws.laws_of_units.Goals as goal

pub returns : goal.returns
returns c = record { laws = unit_laws; tokens = unit_tokens }
