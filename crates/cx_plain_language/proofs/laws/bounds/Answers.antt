use Rattle.cx_plain_language.proofs.StepsLeft.{calls_bounded, turns_bounded, steps_fall}
use Rattle.cx_plain_language.proofs.laws.bounds.Goals as goal

pub returns : goal.returns
returns c = record { calls = calls_bounded; turns = turns_bounded; steps = steps_fall }
