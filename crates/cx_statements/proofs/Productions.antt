-- What the tree of a statement is, one production after the other.
use Rattle.std.proofs.Common.{◌≡◌, map, Some, None, ap, ◌∙◌, sym}
use Rattle.std.specs.Option.{option_map}
use Rattle.cx_base.specs.declared.numbers.NodeId.{NodeId}
use Rattle.cx_base.specs.declared.place.Place.{Place}
use Rattle.cx_tree.specs.Trees.{mark, expr_tree}
use Rattle.cx_tree.specs.Statements as plain
use Rattle.cx_statements.specs.declared.statement.Stmt.TheVariants as stmt
use Rattle.cx_statements.specs.declared.statement.Stmt.TheFolds.{fold-roll-Stmt}
use Rattle.cx_statements.specs.StatementViews.{stmt_layer, stmt_tree, for_init}

pub block_tree : (n : NodeId) (at : Place) (ss : _) → stmt_tree (stmt.Block n at ss) ≡ plain.Block (mark n at) (plain.stmts (map stmt_tree ss.items))
block_tree n at ss = ap stmt_tree (sym (stmt.rolls-Block n at ss)) ∙ fold-roll-Stmt plain.StmtTree stmt_layer _

pub return_tree : (n : NodeId) (at : Place) (value : _) → stmt_tree (stmt.Return n at value) ≡ plain.Return (mark n at) (option_map expr_tree value)
return_tree n at value = ap stmt_tree (sym (stmt.rolls-Return n at value)) ∙ fold-roll-Stmt plain.StmtTree stmt_layer _

pub if_tree : (n : NodeId) (at : Place) (k : _) (condition : _) (then : _) → stmt_tree (stmt.If n at k condition then None) ≡ plain.If (mark n at) k (expr_tree condition) (stmt_tree then.value)
if_tree n at k condition then = ap stmt_tree (sym (stmt.rolls-If n at k condition then None)) ∙ fold-roll-Stmt plain.StmtTree stmt_layer _

pub if_else_tree : (n : NodeId) (at : Place) (k : _) (condition : _) (then : _) (otherwise : _)
    → stmt_tree (stmt.If n at k condition then (Some otherwise)) ≡ plain.IfElse (mark n at) k (expr_tree condition) (stmt_tree then.value) (stmt_tree otherwise.value)
if_else_tree n at k condition then otherwise = ap stmt_tree (sym (stmt.rolls-If n at k condition then (Some otherwise))) ∙ fold-roll-Stmt plain.StmtTree stmt_layer _

pub while_tree : (n : NodeId) (at : Place) (condition : _) (body : _) → stmt_tree (stmt.While n at condition body) ≡ plain.While (mark n at) (expr_tree condition) (stmt_tree body.value)
while_tree n at condition body = ap stmt_tree (sym (stmt.rolls-While n at condition body)) ∙ fold-roll-Stmt plain.StmtTree stmt_layer _

pub for_tree : (n : NodeId) (at : Place) (first : _) (condition : _) (stride : _) (body : _)
    → stmt_tree (stmt.For n at first condition stride body) ≡ plain.For (mark n at) (for_init first) (option_map expr_tree condition) (option_map expr_tree stride) (stmt_tree body.value)
for_tree n at first condition stride body = ap stmt_tree (sym (stmt.rolls-For n at first condition stride body)) ∙ fold-roll-Stmt plain.StmtTree stmt_layer _

pub expression_tree : (n : NodeId) (at : Place) (e : _) → stmt_tree (stmt.Expression n at e) ≡ plain.ExprStmt (mark n at) (expr_tree e)
expression_tree n at e = ap stmt_tree (sym (stmt.rolls-Expression n at e)) ∙ fold-roll-Stmt plain.StmtTree stmt_layer _
