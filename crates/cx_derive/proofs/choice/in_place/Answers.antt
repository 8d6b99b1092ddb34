use Rattle.std.proofs.Common.{ap, ◌∙◌, drop, take, ◌+◌, List}
use Rattle.cx_base.specs.declared.numbers.FormulaId.{FormulaId}
use Rattle.cx_derive.specs.Lists.{with_all}
use Rattle.cx_derive.specs.Goals.{same_number}
use Rattle.cx_derive.proofs.Walks.{three_lists, rest_all}
use Rattle.cx_derive.proofs.choice.in_place.Goals as goal

pub returns-clause-ok : goal.returns-clause-ok
returns-clause-ok c =
    c.in_ok-from_slice.ensures.items ∙ c.as_slice.ensures.keys ∙ c.in_ok-add-3.ensures.ok
    ∙ ap (λ (xs : List FormulaId). with_all same_number c.add-2.new.set.keys xs) (rest_all c.args.list.now (c.args.at + 1))
    ∙ three_lists same_number (take c.args.at c.args.list.now) c.args.parts.now (drop (c.args.at + 1) c.args.list.now) c.in_ok-made.made.keys c.add.new.set.keys c.add-2.new.set.keys
    c.in_ok-made.ensures.empty c.in_ok-add.ensures.ok c.in_ok-add-2.ensures.ok
