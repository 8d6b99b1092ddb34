use Rattle.cx_question_laws.proofs.LimitsLemmas.{law_of_limits}
use Rattle.cx_question_laws.proofs.heights.verdicts_stay.Goals as goal

pub returns : goal.returns
returns g = law_of_limits
