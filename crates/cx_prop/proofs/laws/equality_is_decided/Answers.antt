use Rattle.cx_prop.proofs.Same.{law_of_equality}
use Rattle.cx_prop.proofs.laws.equality_is_decided.Goals as goal

pub returns : goal.returns
returns g c = law_of_equality _
