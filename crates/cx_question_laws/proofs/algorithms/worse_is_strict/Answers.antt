use Rattle.cx_question_laws.proofs.Ranking.{law_of_ranking}
use Rattle.cx_question_laws.proofs.algorithms.worse_is_strict.Goals as goal

pub returns : goal.returns
returns g = law_of_ranking
