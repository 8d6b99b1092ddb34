use Rattle.std.proofs.Common.{◌≡◌, map, drop}
use Rattle.std.specs.List.{flat_map}
use Rattle.cx_tree.specs.Nodes.{walked}
use Rattle.cx_tree.specs.UnitNodes.{member_nodes}
use Rattle.cx_statements.specs.DeclarationViews.{member_tree}
use Rattle.cx_statements.proofs.structs.walk_members.Given as goal

abbrev pub invariant-loop-item : goal.invariant-loop-item
invariant-loop-item l = walked l.walk (flat_map member_nodes (map member_tree (drop l.item-index l.items))) ≡ walked l.initial.walk (flat_map member_nodes (map member_tree l.items))
