use Rattle.cx_question_laws.proofs.Ranking.{law_of_orders}
use Rattle.cx_question_laws.proofs.algorithms.better_is_asymmetric.Goals as goal

pub returns : goal.returns
returns g = law_of_orders
