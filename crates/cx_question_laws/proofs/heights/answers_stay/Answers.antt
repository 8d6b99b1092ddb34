use Rattle.cx_question_laws.proofs.HeightsLemmas.{law_of_heights}
use Rattle.cx_question_laws.proofs.heights.answers_stay.Goals as goal

pub returns : goal.returns
returns g = law_of_heights
