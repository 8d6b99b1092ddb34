use Rattle.cx_prop.proofs.ClausesLemmas.{law_of_clauses}
use Rattle.cx_prop.proofs.laws.subsumption_is_entailment.Goals as goal

pub returns : goal.returns
returns g c = law_of_clauses _
