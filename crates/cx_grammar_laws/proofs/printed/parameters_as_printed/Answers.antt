use Rattle.cx_grammar_laws.proofs.Parameters.{parameter_printed}
use Rattle.cx_grammar_laws.proofs.printed.parameters_as_printed.Goals as goal

pub returns : goal.returns
returns c = record { printed = λ requires autos c' n depth. parameter_printed requires depth c' n autos }
