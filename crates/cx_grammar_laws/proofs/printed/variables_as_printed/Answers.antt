use Rattle.cx_grammar_laws.proofs.Variables.{variable_printed}
use Rattle.cx_grammar_laws.proofs.printed.variables_as_printed.Goals as goal

pub returns : goal.returns
returns c = record { printed = λ requires c' is_constexpr n depth. variable_printed requires depth c' is_constexpr n }
