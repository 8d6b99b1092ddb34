use Rattle.cx_derive.proofs.Renaming.{law_of_renamed_derivations}
use Rattle.cx_derive.proofs.laws.renaming_keeps_derivations.Goals as goal

pub returns : goal.returns
returns g c = law_of_renamed_derivations _ _
