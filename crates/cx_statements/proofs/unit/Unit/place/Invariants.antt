use Rattle.std.proofs.Common.{◌≡◌, drop, map}
use Rattle.cx_tree.specs.declared.walk.Walk.TheVariants.{Left}
use Rattle.cx_tree.specs.Nodes.{walked}
use Rattle.cx_tree.specs.UnitNodes.{unit_nodes}
use Rattle.cx_statements.specs.DeclarationViews.{decl_tree, unit_tree}
use Rattle.cx_statements.proofs.unit.Unit.place.Given as goal

abbrev pub invariant-loop-declaration : goal.invariant-loop-declaration
invariant-loop-declaration l = walked l.walk (unit_nodes (map decl_tree (drop l.declaration-index l.declaration-items))) ≡ walked (Left l.fn.n.0) (unit_nodes (unit_tree l.self))
