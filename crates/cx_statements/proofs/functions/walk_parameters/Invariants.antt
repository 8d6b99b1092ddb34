use Rattle.std.proofs.Common.{◌≡◌, map, drop}
use Rattle.std.specs.List.{flat_map}
use Rattle.cx_tree.specs.Nodes.{walked}
use Rattle.cx_tree.specs.UnitNodes.{parameter_nodes}
use Rattle.cx_statements.specs.DeclarationViews.{parameter_tree}
use Rattle.cx_statements.proofs.functions.walk_parameters.Given as goal

abbrev pub invariant-loop-item : goal.invariant-loop-item
invariant-loop-item l = walked l.walk (flat_map parameter_nodes (map parameter_tree (drop l.item-index l.items))) ≡ walked l.initial.walk (flat_map parameter_nodes (map parameter_tree l.items))
