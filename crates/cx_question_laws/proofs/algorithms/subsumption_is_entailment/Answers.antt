use Rattle.cx_question_laws.proofs.Choosing.{law_of_subsumption}
use Rattle.cx_question_laws.proofs.algorithms.subsumption_is_entailment.Goals as goal

pub returns : goal.returns
returns g = law_of_subsumption
