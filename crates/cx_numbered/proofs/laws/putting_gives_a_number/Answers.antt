use Rattle.cx_numbered.proofs.Numbered.{put_number}
use Rattle.cx_numbered.proofs.laws.putting_gives_a_number.Goals as goal

pub returns-clause-there : goal.returns-clause-there
returns-clause-there g c = put_number
