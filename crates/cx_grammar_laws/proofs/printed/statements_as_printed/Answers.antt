use Rattle.cx_grammar_laws.proofs.Statements.{open_stmt_printed}
use Rattle.cx_grammar_laws.proofs.printed.statements_as_printed.Goals as goal

pub returns : goal.returns
returns c = record { printed = λ requires c' n depth. open_stmt_printed requires depth c' n }
