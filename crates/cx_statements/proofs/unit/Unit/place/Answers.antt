use Rattle.std.proofs.Common.{sym, ◌∙◌}
use Rattle.cx_tree.specs.UnitNodes.{decl_nodes, unit_nodes}
use Rattle.cx_statements.specs.DeclarationViews.{decl_tree, unit_tree}
use Rattle.cx_statements.proofs.Walks.{next_part, no_part, finds, passes}
use Rattle.cx_statements.proofs.unit.Unit.place.Goals as goal

pub loop-declaration-preserved : goal.loop-declaration-preserved
loop-declaration-preserved c =
    let item = rw c.declaration-item.is at c.walk_decl-walk.ensures in
    sym (next_part decl_nodes decl_tree c.deref-declaration-items.result.now c.loop-declaration.declaration-index c.declaration-item.result c.loop-declaration.walk c.walk_decl-walk.result c.loop-declaration-test.true item) ∙ c.loop-declaration.invariant

pub unreachable-requires : goal.unreachable-requires
unreachable-requires c =
    let behind = no_part decl_nodes decl_tree c.deref-declaration-items.result.now c.loop-declaration.declaration-index c.loop-declaration.walk c.loop-declaration-test.false in
    passes (unit_nodes (unit_tree c.args.self.now)) c.args.n.0 c.in-Left.field-0 c.requires (sym c.loop-declaration.invariant ∙ behind ∙ c.in-Left.is)

pub returns : goal.returns
returns c =
    let behind = no_part decl_nodes decl_tree c.deref-declaration-items.result.now c.loop-declaration.declaration-index c.loop-declaration.walk c.loop-declaration-test.false in
    finds (unit_nodes (unit_tree c.args.self.now)) c.args.n.0 _ (sym c.loop-declaration.invariant ∙ behind ∙ c.in-Found.is)
