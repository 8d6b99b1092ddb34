-- What statements leave behind.
use Rattle.std.specs.Prelude.{Option}
use Rattle.std.specs.Option.{option_map}
use Rattle.cx_scope.specs.Frames.{Frames, noted}
use Rattle.cx_scope.specs.declared.name_kind.NameKind.TheVariants.{Value}
use Rattle.cx_tree.specs.Trees.{ExprTree, expr_tree, mark}
use Rattle.cx_tree.specs.Statements.{ForInit, VariableInit, StmtTree, VariableStmt, ExprStmt}
use Rattle.cx_statements.specs.StatementViews.{for_init, variable_tree}
use Rattle.cx_parse_stmt.specs.declared.head.ForHead.{ForHead}
use Rattle.cx_parse_stmt.specs.declared.opened.Opened.{Opened}
use Rattle.cx_parse_stmt.specs.declared.opened.Opened.TheVariants as opened

-- The names behind a statement: those before it, and the one that it declares ([basic.scope.block]).
abbrev pub names_behind : Frames → StmtTree → Frames
names_behind names (VariableStmt v) = noted names v.name Value
names_behind names other = names

-- ... and behind what stands first in the head of a `for`.
abbrev pub names_of_init : Frames → ForInit → Frames
names_of_init names (VariableInit v) = noted names v.name Value
names_of_init names other = names

abbrev pub for_head_tree : ForHead → ForInit × Option ExprTree × Option ExprTree
for_head_tree h = (for_init h.init, option_map expr_tree h.condition, option_map expr_tree h.step)

-- A variable or an expression as a statement.
abbrev pub opened_tree : Opened → StmtTree
opened_tree (opened.Variable v) = VariableStmt (variable_tree v)
opened_tree (opened.Expression node at expr) = ExprStmt (mark node at) (expr_tree expr)
