use Rattle.cx_grammar_laws.proofs.PrintedRequires.{requirement-Printed}
use Rattle.cx_grammar_laws.proofs.printed.requirements_as_printed.Goals as goal

pub returns : goal.returns
returns c = record { printed = λ requires c n depth. requirement-Printed requires depth c n }
