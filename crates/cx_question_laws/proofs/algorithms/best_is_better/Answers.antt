use Rattle.cx_question_laws.proofs.Choosing.{law_of_best}
use Rattle.cx_question_laws.proofs.algorithms.best_is_better.Goals as goal

pub returns : goal.returns
returns g c = law_of_best _
