use Rattle.cx_questions.proofs.Entailing.{law_of_entailment}
use Rattle.cx_questions.proofs.laws.entailment_is_truth.Goals as goal

pub returns : goal.returns
returns g c = law_of_entailment _
