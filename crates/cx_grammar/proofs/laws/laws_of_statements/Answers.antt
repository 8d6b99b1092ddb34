use Rattle.cx_grammar.proofs.GrammarLaws.{stmt_laws, stmt_tokens}
use Rattle.cx_grammar.proofs.laws.laws_of_statements.Goals as goal

pub returns : goal.returns
returns c = record { laws = stmt_laws; tokens = stmt_tokens }
