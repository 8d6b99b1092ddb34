use Rattle.cx_derive.proofs.Soundness.{law_of_derivations}
use Rattle.cx_derive.proofs.laws.right_derivations_entail.Goals as goal

pub returns : goal.returns
returns g c = law_of_derivations _
