use Rattle.cx_question_laws.proofs.Deducing.{law_of_deduction}
use Rattle.cx_question_laws.proofs.algorithms.deduction_is_least.Goals as goal

pub returns : goal.returns
returns g = law_of_deduction
