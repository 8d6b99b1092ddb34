use Rattle.cx_derive.proofs.Canonical.{law_of_search}
use Rattle.cx_derive.proofs.laws.search_goes_by_rules.Goals as goal

pub returns : goal.returns
returns g c = law_of_search _
