use Rattle.std.proofs.Common.{sym, ◌∙◌}
use Rattle.cx_tree.specs.UnitNodes.{template_parameter_nodes}
use Rattle.cx_statements.specs.DeclarationViews.{template_parameter}
use Rattle.cx_statements.proofs.Walks.{next_part}
use Rattle.cx_statements.proofs.templates.walk_template_parameters.Goals as goal

pub loop-item-preserved : goal.loop-item-preserved
loop-item-preserved c =
    let item = rw c.item-item.is at c.walk_template_parameter-walk.ensures in
    sym (next_part template_parameter_nodes template_parameter c.args.items.now c.loop-item.item-index c.item-item.result c.loop-item.walk c.walk_template_parameter-walk.result c.loop-item-test.true item) ∙ c.loop-item.invariant
