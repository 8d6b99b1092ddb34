use Rattle.cx_prop.specs.Table.{formula_at}
use Rattle.cx_prop.proofs.Tables.{connectives}
use Rattle.cx_prop.proofs.formulas.Formulas.+holds.Given as goal

abbrev pub decreases-holds : goal.decreases-holds
decreases-holds l = connectives (formula_at l.self.now l.f)
