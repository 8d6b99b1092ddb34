use Rattle.cx_grammar.proofs.PrintedExpressions.{expr_printed}
use Rattle.cx_grammar.specs.Expressions.{levels}
use Rattle.cx_grammar.proofs.text.expressions_as_printed.Goals as goal

pub returns : goal.returns
returns c = record { printed = λ requires c' n depth. expr_printed (levels requires depth) c' n }
