use Rattle.cx_machine.proofs.Ranges.{conversion, of_unary, of_binary}
use Rattle.cx_machine.proofs.laws.values_of_types.Goals as goal

pub returns : goal.returns
returns c = record { conversion = conversion; unary = of_unary; binary = of_binary }
