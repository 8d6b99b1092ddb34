use Rattle.std.proofs.Common.{sym, ◌∙◌}
use Rattle.cx_tree.specs.UnitNodes.{member_nodes}
use Rattle.cx_statements.specs.DeclarationViews.{member_tree}
use Rattle.cx_statements.proofs.Walks.{next_part}
use Rattle.cx_statements.proofs.structs.walk_members.Goals as goal

pub loop-item-preserved : goal.loop-item-preserved
loop-item-preserved c =
    let item = rw c.item-item.is at c.walk_member-walk.ensures in
    sym (next_part member_nodes member_tree c.args.items.now c.loop-item.item-index c.item-item.result c.loop-item.walk c.walk_member-walk.result c.loop-item-test.true item) ∙ c.loop-item.invariant
