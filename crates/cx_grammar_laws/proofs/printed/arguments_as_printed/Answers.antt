use Rattle.cx_grammar_laws.proofs.Arguments.{argument_printed}
use Rattle.cx_grammar_laws.proofs.printed.arguments_as_printed.Goals as goal

pub returns : goal.returns
returns c = record { printed = λ requires c' n depth. argument_printed requires depth c' n }
