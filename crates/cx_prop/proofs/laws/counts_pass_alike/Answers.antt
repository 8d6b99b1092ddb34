use Rattle.cx_prop.proofs.CountingLemmas.{law_of_counts}
use Rattle.cx_prop.proofs.laws.counts_pass_alike.Goals as goal

pub returns : goal.returns
returns g c = law_of_counts _
