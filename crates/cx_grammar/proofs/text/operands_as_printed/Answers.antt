use Rattle.cx_grammar.proofs.PrintedOperands.{operand_printed}
use Rattle.cx_grammar.proofs.text.operands_as_printed.Goals as goal

pub returns : goal.returns
returns c = record { printed = λ requires c' n level depth. operand_printed requires level depth c' n }
