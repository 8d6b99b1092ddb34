use Rattle.std.proofs.Common.{subst}
use Rattle.cx_derive.specs.declared.goal.Goal.{Goal}
use Rattle.cx_derive.specs.Goals.{Explores, sequent_of}
use Rattle.cx_derive.proofs.DecisionLemmas.{entailed, shows_derived, answers_separated, shows_separated, numbers_separated, not_entailed}
use Rattle.cx_derive.proofs.decision.entails.Goals as goal

pub returns-in-None-clause-decides : goal.returns-in-None-clause-decides
returns-in-None-clause-decides c =
    let table = c.args.formulas.now in
    let g : Goal = record { left = c.in_ok-left.left; right = c.in_ok-right.right } in
    let old = c.new-found.result.keys in
    let late = c.explore.new.found.keys in
    let found = subst (Explores table old late (sequent_of table g)) c.in-None.is c.in_ok-explore.ensures.ok in
    (λ _. entailed table c.args.p c.args.q g c.in_ok-left.ensures.ok c.in_ok-right.ensures.ok old late c.new-found.ensures.empty found, λ _. tt)

pub returns-in-None-clause-shows : goal.returns-in-None-clause-shows
returns-in-None-clause-shows c =
    let table = c.args.formulas.now in
    let g : Goal = record { left = c.in_ok-left.left; right = c.in_ok-right.right } in
    let old = c.new-found.result.keys in
    let late = c.explore.new.found.keys in
    let found = subst (Explores table old late (sequent_of table g)) c.in-None.is c.in_ok-explore.ensures.ok in
    shows_derived table c.args.p c.args.q g c.in_ok-left.ensures.ok c.in_ok-right.ensures.ok old late c.new-found.ensures.empty found c.in_ok-steps-in-None.field-0 c.in_ok-steps-in-None.ensures.ok

pub returns-clause-answer : goal.returns-clause-answer
returns-clause-answer c =
    let table = c.args.formulas.now in
    let g : Goal = record { left = c.in_ok-left.left; right = c.in_ok-right.right } in
    let old = c.new-found.result.keys in
    let late = c.explore.new.found.keys in
    let found = subst (Explores table old late (sequent_of table g)) c.in-Some.is c.in_ok-explore.ensures.ok in
    answers_separated table c.args.p c.args.q g c.in_ok-left.ensures.ok c.in_ok-right.ensures.ok old late c.in-Some.leaf found c.new.result c.new.ensures

pub returns-clause-decides : goal.returns-clause-decides
returns-clause-decides c =
    let table = c.args.formulas.now in
    let g : Goal = record { left = c.in_ok-left.left; right = c.in_ok-right.right } in
    let old = c.new-found.result.keys in
    let late = c.explore.new.found.keys in
    let found = subst (Explores table old late (sequent_of table g)) c.in-Some.is c.in_ok-explore.ensures.ok in
    (λ b. absurd b, λ e. not_entailed table c.args.p c.args.q g c.in_ok-left.ensures.ok c.in_ok-right.ensures.ok old late c.in-Some.leaf found e)

pub returns-clause-shows : goal.returns-clause-shows
returns-clause-shows c =
    let table = c.args.formulas.now in
    let g : Goal = record { left = c.in_ok-left.left; right = c.in_ok-right.right } in
    let old = c.new-found.result.keys in
    let late = c.explore.new.found.keys in
    let found = subst (Explores table old late (sequent_of table g)) c.in-Some.is c.in_ok-explore.ensures.ok in
    shows_separated table c.args.p c.args.q g c.in_ok-left.ensures.ok c.in_ok-right.ensures.ok old late c.in-Some.leaf found c.new.result c.new.ensures

pub returns-clause-numbers : goal.returns-clause-numbers
returns-clause-numbers c =
    let table = c.args.formulas.now in
    let g : Goal = record { left = c.in_ok-left.left; right = c.in_ok-right.right } in
    let old = c.new-found.result.keys in
    let late = c.explore.new.found.keys in
    let found = subst (Explores table old late (sequent_of table g)) c.in-Some.is c.in_ok-explore.ensures.ok in
    numbers_separated table c.args.p c.args.q g c.in_ok-left.ensures.ok c.in_ok-right.ensures.ok old late c.in-Some.leaf found c.new.result c.new.ensures
