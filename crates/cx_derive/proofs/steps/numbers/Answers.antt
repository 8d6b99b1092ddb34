use Rattle.std.proofs.Common.{sym, subst, refl, map, ◌≡◌}
use Rattle.cx_derive.specs.declared.choice.Premises.{Premises}
use Rattle.cx_derive.specs.Search.{number_among}
use Rattle.cx_derive.specs.Goals.{HasGoals, goals_of, sequents_of}
use Rattle.cx_derive.proofs.StepLemmas.{two_pushed}
use Rattle.cx_derive.proofs.steps.numbers.Goals as goal
use Rattle.cx_prop.specs.Interned.{same_interned}

pub number-requires-clause-goal : goal.number-requires-clause-goal
number-requires-clause-goal c = subst (λ (m : Premises). HasGoals c.args.formulas.now (goals_of m)) c.in-One.is c.requires.premises 0 c.in-One.goal refl

pub number-requires-in-Two-clause-goal : goal.number-requires-in-Two-clause-goal
number-requires-in-Two-clause-goal c = subst (λ (m : Premises). HasGoals c.args.formulas.now (goals_of m)) c.in-Two.is c.requires.premises 0 c.in-Two.first refl

pub number-requires-in-Two-2-clause-goal : goal.number-requires-in-Two-2-clause-goal
number-requires-in-Two-2-clause-goal c = subst (λ (m : Premises). HasGoals c.args.formulas.now (goals_of m)) c.in-Two.is c.requires.premises 1 c.in-Two.second refl

pub returns-in_ok-push-in-Two-2-clause-ok : goal.returns-in_ok-push-in-Two-2-clause-ok
returns-in_ok-push-in-Two-2-clause-ok c =
    let all = sequents_of c.args.formulas.now c.args.found.now.keys in
    subst (λ (m : Premises). c.push-in-Two-2.new.self.items ≡ map ((number_among same_interned) all) (sequents_of c.args.formulas.now (goals_of m))) (sym c.in-Two.is)
    (two_pushed c.new-numbers.result.items c.push-in-Two.new.self.items c.push-in-Two-2.new.self.items c.number-in-Two.result c.number-in-Two-2.result _ _ c.new-numbers.ensures.items c.in_ok-push-in-Two.ensures.items c.in_ok-push-in-Two-2.ensures.items c.number-in-Two.ensures c.number-in-Two-2.ensures)
