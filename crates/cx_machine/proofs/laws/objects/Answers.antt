use Rattle.cx_machine.proofs.Lives.{write_last, read_over}
use Rattle.cx_machine.proofs.laws.objects.Goals as goal

pub returns-clause-written : goal.returns-clause-written
returns-clause-written c = write_last

pub returns-clause-over : goal.returns-clause-over
returns-clause-over c = read_over
