use Rattle.std.proofs.Common.{sym, ◌∙◌}
use Rattle.cx_derive.specs.Goals.{sequent_of}
use Rattle.cx_derive.proofs.Choosing.{chosen_shared}
use Rattle.cx_derive.proofs.Numbers.{shared_test, left_chosen, right_choice, right_has}
use Rattle.cx_derive.proofs.choice.chosen.Goals as goal
use Rattle.cx_prop.specs.Interned.{same_interned}

pub returns-then-branch-clause-choice : goal.returns-then-branch-clause-choice
returns-then-branch-clause-choice c =
    chosen_shared same_interned (sequent_of c.args.formulas.now c.args.goal.now)
    (sym (shared_test c.args.formulas.now c.requires.distinct c.args.goal.now c.requires.goal c.in_ok-shares.field-0 c.deref.result.now c.deref-2.result.now c.in_ok-shares.ensures.ok c.deref.ensures.value c.deref-2.ensures.value) ∙ c.if-branch.true)

pub returns-then-is_some-clause-choice : goal.returns-then-is_some-clause-choice
returns-then-is_some-clause-choice c =
    let shared = shared_test c.args.formulas.now c.requires.distinct c.args.goal.now c.requires.goal c.in_ok-shares.field-0 c.deref.result.now c.deref-2.result.now c.in_ok-shares.ensures.ok c.deref.ensures.value c.deref-2.ensures.value in
    (left_chosen c.args.formulas.now c.requires.distinct c.args.goal.now c.requires.goal c.in_ok-shares.field-0 c.deref-3.result.now c.leftmost.result c.in_ok-left.left shared c.if-branch.false c.deref-3.ensures.value
    c.leftmost.ensures.split c.leftmost.ensures.inside c.in_ok-left.ensures.ok (sym c.is_some.ensures ∙ c.if-is_some.true)).0

pub returns-then-is_some-clause-has : goal.returns-then-is_some-clause-has
returns-then-is_some-clause-has c =
    let shared = shared_test c.args.formulas.now c.requires.distinct c.args.goal.now c.requires.goal c.in_ok-shares.field-0 c.deref.result.now c.deref-2.result.now c.in_ok-shares.ensures.ok c.deref.ensures.value c.deref-2.ensures.value in
    (left_chosen c.args.formulas.now c.requires.distinct c.args.goal.now c.requires.goal c.in_ok-shares.field-0 c.deref-3.result.now c.leftmost.result c.in_ok-left.left shared c.if-branch.false c.deref-3.ensures.value
    c.leftmost.ensures.split c.leftmost.ensures.inside c.in_ok-left.ensures.ok (sym c.is_some.ensures ∙ c.if-is_some.true)).1

pub returns-clause-choice : goal.returns-clause-choice
returns-clause-choice c =
    let shared = shared_test c.args.formulas.now c.requires.distinct c.args.goal.now c.requires.goal c.in_ok-shares.field-0 c.deref.result.now c.deref-2.result.now c.in_ok-shares.ensures.ok c.deref.ensures.value c.deref-2.ensures.value in
    right_choice c.args.formulas.now c.requires.distinct c.args.goal.now c.requires.goal c.in_ok-shares.field-0 c.deref-3.result.now c.deref-4.result.now c.leftmost.result c.leftmost-2.result c.in_ok-left.left shared c.if-branch.false c.deref-3.ensures.value
    c.leftmost.ensures.split c.in_ok-left.ensures.ok (sym c.is_some.ensures ∙ c.if-is_some.false) c.deref-4.ensures.value c.leftmost-2.ensures.split c.leftmost-2.ensures.inside c.on_right.result c.on_right.ensures.ok

pub returns-clause-has : goal.returns-clause-has
returns-clause-has c =
    let shared = shared_test c.args.formulas.now c.requires.distinct c.args.goal.now c.requires.goal c.in_ok-shares.field-0 c.deref.result.now c.deref-2.result.now c.in_ok-shares.ensures.ok c.deref.ensures.value c.deref-2.ensures.value in
    right_has c.args.formulas.now c.requires.distinct c.args.goal.now c.requires.goal c.in_ok-shares.field-0 c.deref-3.result.now c.deref-4.result.now c.leftmost.result c.leftmost-2.result c.in_ok-left.left shared c.if-branch.false c.deref-3.ensures.value
    c.leftmost.ensures.split c.in_ok-left.ensures.ok (sym c.is_some.ensures ∙ c.if-is_some.false) c.deref-4.ensures.value c.leftmost-2.ensures.split c.leftmost-2.ensures.inside c.on_right.result c.on_right.ensures.ok
