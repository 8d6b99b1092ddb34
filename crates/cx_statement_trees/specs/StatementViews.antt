-- What the statements of the code stand for.
use Rattle.std.specs.Prelude.{map, None, Some}
use Rattle.std.specs.Option.{option_map}
use Rattle.cx_productions.specs.Trees.{exprs}
use Rattle.cx_trees.specs.Views.{mark, expr_tree, type_tree, constraint_tree}
use Rattle.cx_productions.specs.StatementTrees as plain
use Rattle.cx_statement_trees.specs.declared.statement.Stmt.{Stmt}
use Rattle.cx_statement_trees.specs.declared.statement.Stmt.TheFolds.{fold-Stmt}
use Rattle.cx_statement_trees.specs.declared.statement.Stmt.TheOpen as layer
use Rattle.cx_statement_trees.specs.declared.statement.Stmt.TheOpen.{Stmt-F}
use Rattle.cx_statement_trees.specs.declared.statement.Variable.{Variable}
use Rattle.cx_statement_trees.specs.declared.statement.WrittenType.{WrittenType}
use Rattle.cx_statement_trees.specs.declared.statement.WrittenType.TheVariants as written
use Rattle.cx_statement_trees.specs.declared.statement.Auto.{Auto}
use Rattle.cx_statement_trees.specs.declared.statement.Init.{Init}
use Rattle.cx_statement_trees.specs.declared.statement.Init.TheVariants as init
use Rattle.cx_statement_trees.specs.declared.statement.Opening.{Opening}
use Rattle.cx_statement_trees.specs.declared.statement.Opening.TheVariants as opening
use Rattle.cx_statement_trees.specs.declared.statement.ForHead.{ForHead}
use Rattle.cx_statement_trees.specs.declared.statement.Assertion.{Assertion}

abbrev pub auto_tree : Auto → plain.AutoTree
auto_tree a = record { mark = mark a.node a.at; constant = a.constant; constraint = option_map (λ k. constraint_tree k.value) a.constraint; reference = a.reference }

abbrev pub written_type : WrittenType → plain.WrittenType
written_type (written.Type t) = plain.OfType (type_tree t.value)
written_type (written.Auto a) = plain.OfAuto (auto_tree a.value)

abbrev pub init_tree : Init → plain.InitTree
init_tree (init.Value e) = plain.ValueInit (expr_tree e.value)
init_tree (init.List node at items) = plain.ListInit (mark node at) (exprs (map expr_tree items.items))

abbrev pub variable_tree : Variable → plain.VariableTree
variable_tree v = record { mark = mark v.node v.at; is_constexpr = v.is_constexpr; type = written_type v.written; name = v.name.now; init = init_tree v.init }

abbrev pub opening_tree : Opening → plain.Opening
opening_tree (opening.Variable v) = plain.OfVariable (variable_tree v.value)
opening_tree (opening.Expression e) = plain.OfExpr (expr_tree e.value)

abbrev pub head_tree : ForHead → plain.ForHead
head_tree h = record { init = option_map opening_tree h.init; condition = option_map (λ e. expr_tree e.value) h.condition; step = option_map (λ e. expr_tree e.value) h.step }

abbrev pub assert_tree : Assertion → plain.AssertTree
assert_tree a = record { mark = mark a.node a.at; condition = expr_tree a.condition.value; message = option_map (λ text. text.now) a.message }

-- ---- layer by layer

abbrev pub stmt_layer : Stmt-F plain.StmtTree → plain.StmtTree
stmt_layer (layer.Empty node at) = plain.EmptyStmt (mark node at)
stmt_layer (layer.Block node at statements) = plain.Block (mark node at) (plain.stmts statements.items)
stmt_layer (layer.StaticAssert a) = plain.AssertStmt (assert_tree a.value)
stmt_layer (layer.Break node at) = plain.Break (mark node at)
stmt_layer (layer.Continue node at) = plain.Continue (mark node at)
stmt_layer (layer.Return node at value) = plain.Return (mark node at) (option_map (λ e. expr_tree e.value) value)
stmt_layer (layer.If node at is_constexpr condition then None) = plain.If (mark node at) is_constexpr (expr_tree condition.value) then.value
stmt_layer (layer.If node at is_constexpr condition then (Some otherwise)) = plain.IfElse (mark node at) is_constexpr (expr_tree condition.value) then.value otherwise.value
stmt_layer (layer.While node at condition body) = plain.While (mark node at) (expr_tree condition.value) body.value
stmt_layer (layer.For node at head body) = plain.For (mark node at) (head_tree head.value) body.value
stmt_layer (layer.Variable v) = plain.VariableStmt (variable_tree v.value)
stmt_layer (layer.Expression node at expr) = plain.ExprStmt (mark node at) (expr_tree expr.value)

abbrev pub stmt_tree : Stmt → plain.StmtTree
stmt_tree = fold-Stmt plain.StmtTree stmt_layer
