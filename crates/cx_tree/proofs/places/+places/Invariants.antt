use Rattle.std.proofs.Common.{◌≡◌, map, drop}
use Rattle.cx_tree.specs.Trees.{expr_tree, exprs, argument_tree, arguments}
use Rattle.cx_tree.specs.Nodes.{walked, exprs_nodes, argument_nodes}
use Rattle.cx_tree.proofs.places.+places.Given as goal

abbrev pub invariant-walk_arguments-loop-item : goal.invariant-walk_arguments-loop-item
invariant-walk_arguments-loop-item l = walked l.walk (argument_nodes (arguments (map argument_tree (drop l.item-index l.items)))) ≡ walked l.initial.walk (argument_nodes (arguments (map argument_tree l.items)))

abbrev pub invariant-walk_exprs-loop-item : goal.invariant-walk_exprs-loop-item
invariant-walk_exprs-loop-item l = walked l.walk (exprs_nodes (exprs (map expr_tree (drop l.item-index l.items)))) ≡ walked l.initial.walk (exprs_nodes (exprs (map expr_tree l.items)))
