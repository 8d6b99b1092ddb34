use Rattle.cx_grammar.specs.Declarations.{unit_levels}
use Rattle.cx_grammar_laws.proofs.Functions.{variable_or_function_printed}
use Rattle.cx_grammar_laws.proofs.printed.variables_and_functions_as_printed.Goals as goal

pub returns : goal.returns
returns c = record { printed = λ requires c' n depth. variable_or_function_printed (unit_levels requires depth) c' n }
