-- What the statements of the code stand for.
use Rattle.std.specs.Prelude.{map, None, Some}
use Rattle.std.specs.Option.{option_map}
use Rattle.cx_tree.specs.Trees.{ConstraintTree, mark, expr_tree, type_tree, argument_tree, exprs, arguments}
use Rattle.cx_tree.specs.Statements as plain
use Rattle.cx_statements.specs.declared.statement.Stmt.{Stmt}
use Rattle.cx_statements.specs.declared.statement.Stmt.TheFolds.{fold-Stmt}
use Rattle.cx_statements.specs.declared.statement.Stmt.TheOpen as layer
use Rattle.cx_statements.specs.declared.statement.Stmt.TheOpen.{Stmt-F}
use Rattle.cx_statements.specs.declared.statement.Variable.{Variable}
use Rattle.cx_statements.specs.declared.statement.WrittenType.{WrittenType}
use Rattle.cx_statements.specs.declared.statement.WrittenType.TheVariants as written
use Rattle.cx_statements.specs.declared.statement.Auto.{Auto}
use Rattle.cx_statements.specs.declared.statement.Constraint.{Constraint}
use Rattle.cx_statements.specs.declared.statement.Init.{Init}
use Rattle.cx_statements.specs.declared.statement.Init.TheVariants as init
use Rattle.cx_statements.specs.declared.statement.ForInit.{ForInit}
use Rattle.cx_statements.specs.declared.statement.ForInit.TheVariants as first
use Rattle.cx_statements.specs.declared.statement.Assertion.{Assertion}

abbrev pub constraint_tree : Constraint → ConstraintTree
constraint_tree c = record { mark = mark c.node c.at; name = c.name.now; args = arguments (map argument_tree c.arguments.items) }

abbrev pub auto_tree : Auto → plain.AutoTree
auto_tree a = record { mark = mark a.node a.at; constant = a.constant; constraint = option_map constraint_tree a.constraint; reference = a.reference }

abbrev pub written_type : WrittenType → plain.WrittenType
written_type (written.Type t) = plain.OfType (type_tree t)
written_type (written.Auto a) = plain.OfAuto (auto_tree a)

abbrev pub init_tree : Init → plain.InitTree
init_tree (init.Value e) = plain.ValueInit (expr_tree e)
init_tree (init.List node at items) = plain.ListInit (mark node at) (exprs (map expr_tree items.items))

abbrev pub variable_tree : Variable → plain.VariableTree
variable_tree v = record { mark = mark v.node v.at; is_constexpr = v.is_constexpr; type = written_type v.written; name = v.name.now; init = init_tree v.init }

abbrev pub for_init : ForInit → plain.ForInit
for_init first.Nothing = plain.NoInit
for_init (first.Variable v) = plain.VariableInit (variable_tree v)
for_init (first.Expression e) = plain.ExprInit (expr_tree e)

abbrev pub assert_tree : Assertion → plain.AssertTree
assert_tree a = record { mark = mark a.node a.at; condition = expr_tree a.condition; message = option_map (λ text. text.now) a.message }

-- ---- layer by layer

abbrev pub stmt_layer : Stmt-F plain.StmtTree → plain.StmtTree
stmt_layer (layer.Empty node at) = plain.EmptyStmt (mark node at)
stmt_layer (layer.Block node at statements) = plain.Block (mark node at) (plain.stmts statements.items)
stmt_layer (layer.StaticAssert a) = plain.AssertStmt (assert_tree a)
stmt_layer (layer.Break node at) = plain.Break (mark node at)
stmt_layer (layer.Continue node at) = plain.Continue (mark node at)
stmt_layer (layer.Return node at value) = plain.Return (mark node at) (option_map expr_tree value)
stmt_layer (layer.If node at is_constexpr condition then None) = plain.If (mark node at) is_constexpr (expr_tree condition) then.value
stmt_layer (layer.If node at is_constexpr condition then (Some otherwise)) = plain.IfElse (mark node at) is_constexpr (expr_tree condition) then.value otherwise.value
stmt_layer (layer.While node at condition body) = plain.While (mark node at) (expr_tree condition) body.value
stmt_layer (layer.For node at first condition step body) = plain.For (mark node at) (for_init first) (option_map expr_tree condition) (option_map expr_tree step) body.value
stmt_layer (layer.Variable v) = plain.VariableStmt (variable_tree v)
stmt_layer (layer.Expression node at expr) = plain.ExprStmt (mark node at) (expr_tree expr)

abbrev pub stmt_tree : Stmt → plain.StmtTree
stmt_tree = fold-Stmt plain.StmtTree stmt_layer
