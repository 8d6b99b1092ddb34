use Rattle.std.proofs.Common.{List, get_or, sym, ◌∙◌, ap}
use Rattle.cx_base.specs.declared.numbers.FormulaId.{FormulaId}
use Rattle.cx_derive.specs.Goals.{same_number}
use Rattle.cx_derive.specs.Lists.{with_new}
use Rattle.cx_derive.proofs.Walks.{with_all-none, with_all_more}
use Rattle.cx_derive.proofs.choice.add.Goals as goal

pub loop-f-init : goal.loop-f-init
loop-f-init c = sym (with_all-none same_number c.args.set.now.keys)

pub loop-f-preserved : goal.loop-f-preserved
loop-f-preserved c =
    let d : FormulaId = record { 0 = 0 } in
    let x : FormulaId = get_or c.args.numbers.now c.loop-f.f-index d in
    c.in_ok-insert.ensures.keys ∙ ap (λ (xs : List FormulaId). with_new same_number xs x) c.loop-f.invariant
    ∙ sym (with_all_more same_number c.args.set.now.keys c.args.numbers.now c.loop-f.f-index d c.loop-f-test.true)
