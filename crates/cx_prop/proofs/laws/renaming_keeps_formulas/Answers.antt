use Rattle.cx_prop.proofs.Renaming.{law_of_renaming}
use Rattle.cx_prop.proofs.laws.renaming_keeps_formulas.Goals as goal

pub returns : goal.returns
returns g c = law_of_renaming _ _
