use Rattle.std.proofs.Common.{◌||◌, get_or, sym, ◌∙◌}
use Rattle.std.proofs.lemmas.List.Folds.{list_any_at, list_any_more}
use Rattle.cx_base.specs.declared.numbers.FormulaId.{FormulaId}
use Rattle.cx_derive.specs.Lists.{is_among}
use Rattle.cx_derive.specs.Goals.{same_number}
use Rattle.cx_derive.proofs.Known.{known}
use Rattle.cx_derive.proofs.choice.shares.Goals as goal

pub returns-then-contains-clause-ok : goal.returns-then-contains-clause-ok
returns-then-contains-clause-ok c =
    let d : FormulaId = record { 0 = 0 } in
    let f : FormulaId = get_or c.args.left.now c.loop-f.f-index d in
    let same = known c.in_ok-numbers.numbers.keys c.args.right.now c.add.new.set.keys f c.in_ok-numbers.ensures.empty c.in_ok-add.ensures.ok in
    sym (list_any_at (is_among same_number c.args.right.now) c.args.left.now c.loop-f.f-index d c.loop-f-test.true (sym same ∙ sym c.contains.ensures ∙ c.if-contains.true))

pub loop-f-preserved : goal.loop-f-preserved
loop-f-preserved c =
    let d : FormulaId = record { 0 = 0 } in
    let f : FormulaId = get_or c.args.left.now c.loop-f.f-index d in
    let same = known c.in_ok-numbers.numbers.keys c.args.right.now c.add.new.set.keys f c.in_ok-numbers.ensures.empty c.in_ok-add.ensures.ok in
    let absent = sym same ∙ sym c.contains.ensures ∙ c.if-contains.false in
    list_any_more (is_among same_number c.args.right.now) c.args.left.now c.loop-f.f-index d c.loop-f-test.true ∙ (λ i. c.loop-f.invariant i || absent i)
