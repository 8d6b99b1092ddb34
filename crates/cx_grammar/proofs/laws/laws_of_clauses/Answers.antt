use Rattle.cx_grammar.proofs.GrammarLaws.{clause_laws, clause_tokens}
use Rattle.cx_grammar.proofs.laws.laws_of_clauses.Goals as goal

pub returns : goal.returns
returns c = record { laws = clause_laws; tokens = clause_tokens }
