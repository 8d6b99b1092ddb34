use Rattle.std.proofs.Common.{◌≡◌, map, drop}
use Rattle.cx_tree.specs.Nodes.{walked}
use Rattle.cx_tree.specs.Statements.{stmts}
use Rattle.cx_tree.specs.UnitNodes.{stmts_nodes}
use Rattle.cx_statements.specs.StatementViews.{stmt_tree}
use Rattle.cx_statements.proofs.statements.+statements.Given as goal

abbrev pub invariant-walk_stmts-loop-item : goal.invariant-walk_stmts-loop-item
invariant-walk_stmts-loop-item l = walked l.walk (stmts_nodes (stmts (map stmt_tree (drop l.item-index l.items)))) ≡ walked l.initial.walk (stmts_nodes (stmts (map stmt_tree l.items)))
