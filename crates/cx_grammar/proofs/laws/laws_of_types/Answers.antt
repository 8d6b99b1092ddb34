use Rattle.cx_grammar.proofs.GrammarLaws.{type_laws, type_tokens}
use Rattle.cx_grammar.proofs.laws.laws_of_types.Goals as goal

pub returns : goal.returns
returns c = record { laws = type_laws; tokens = type_tokens }
