use Rattle.std.proofs.Common.{◌≡◌, map, drop}
use Rattle.std.specs.List.{flat_map}
use Rattle.cx_tree.specs.Nodes.{walked}
use Rattle.cx_tree.specs.UnitNodes.{template_parameter_nodes}
use Rattle.cx_statements.specs.DeclarationViews.{template_parameter}
use Rattle.cx_statements.proofs.templates.walk_template_parameters.Given as goal

abbrev pub invariant-loop-item : goal.invariant-loop-item
invariant-loop-item l = walked l.walk (flat_map template_parameter_nodes (map template_parameter (drop l.item-index l.items))) ≡ walked l.initial.walk (flat_map template_parameter_nodes (map template_parameter l.items))
