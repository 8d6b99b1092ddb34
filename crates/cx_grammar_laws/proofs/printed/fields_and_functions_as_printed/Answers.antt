use Rattle.cx_grammar.specs.Declarations.{unit_levels}
use Rattle.cx_grammar_laws.proofs.Functions.{field_or_function_printed}
use Rattle.cx_grammar_laws.proofs.printed.fields_and_functions_as_printed.Goals as goal

pub returns : goal.returns
returns c = record { printed = λ requires templated c' n depth. field_or_function_printed templated (unit_levels requires depth) c' n }
