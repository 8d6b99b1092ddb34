use Rattle.cx_derive.proofs.Canonical.{law_of_canonical_derivations}
use Rattle.cx_derive.proofs.laws.canonical_derivations_are_right.Goals as goal

pub returns : goal.returns
returns g c = law_of_canonical_derivations _
