use Rattle.cx_grammar.proofs.GrammarLaws.{expr_laws, expr_tokens}
use Rattle.cx_grammar.proofs.laws.laws_of_expressions.Goals as goal

pub returns : goal.returns
returns c = record { laws = expr_laws; tokens = expr_tokens }
