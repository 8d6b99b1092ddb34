use Rattle.std.proofs.Common.{◌≡◌, take, map}
use Rattle.cx_derive.specs.Search.{inference_in}
use Rattle.cx_derive.specs.Goals.{sequents_of}
use Rattle.cx_derive.specs.Answers.{HasSteps, inference_of}
use Rattle.cx_derive.proofs.steps.steps.Given as goal
use Rattle.cx_prop.specs.Interned.{same_interned}

abbrev pub invariant-loop-goal : goal.invariant-loop-goal
invariant-loop-goal l = HasSteps l.formulas l.steps.items × (map (inference_of l.formulas) l.steps.items ≡ map ((inference_in same_interned) (sequents_of l.formulas l.found.keys)) (sequents_of l.formulas (take l.goal-index l.found.keys)))
