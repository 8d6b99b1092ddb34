use Rattle.cx_plain.proofs.MoreSteps.{returned_later, undefined_later, left_within, deeper_same}
use Rattle.cx_plain.proofs.laws.steps.Goals as goal

pub returns-clause-returned : goal.returns-clause-returned
returns-clause-returned c = returned_later

pub returns-clause-undefined : goal.returns-clause-undefined
returns-clause-undefined c = undefined_later

pub returns-clause-within : goal.returns-clause-within
returns-clause-within c = left_within

pub returns-clause-depth : goal.returns-clause-depth
returns-clause-depth c = deeper_same
