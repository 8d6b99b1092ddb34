use Rattle.cx_grammar_laws.proofs.PrintedRequires.{requires_expr-Printed}
use Rattle.cx_grammar_laws.proofs.printed.requires_expressions_as_printed.Goals as goal

pub returns : goal.returns
returns c = record { printed = λ requires c n depth. requires_expr-Printed requires depth c n }
