-- The nodes of statements ([stmt.stmt]): each comes after its parts, the parts in the order of the text.
use Rattle.std.specs.Prelude.{List, [], ◌∷◌, ◌++◌, Option, Some, None}
use Rattle.cx_productions.specs.Trees.{Mark, ExprTree, ConstraintTree}
use Rattle.cx_productions.specs.Nodes.{expr_nodes, exprs_nodes, type_nodes, argument_nodes}
use Rattle.cx_productions.specs.StatementTrees.{AutoTree, WrittenType, OfType, OfAuto, InitTree, ValueInit, ListInit, VariableTree, Opening, OfVariable, OfExpr, ForHead, AssertTree, StmtTree, EmptyStmt, Block, AssertStmt, Break, Continue, Return, If, IfElse, While, For, VariableStmt, ExprStmt, StmtTrees, no_stmt, and_stmt}

-- ---- parts that may be left out

abbrev pub maybe_expr_nodes : Option ExprTree → List Mark
maybe_expr_nodes None = []
maybe_expr_nodes (Some e) = expr_nodes e

-- ---- variables

abbrev pub constraint_nodes : ConstraintTree → List Mark
constraint_nodes k = argument_nodes k.args ++ k.mark ∷ []

abbrev pub maybe_constraint_nodes : Option ConstraintTree → List Mark
maybe_constraint_nodes None = []
maybe_constraint_nodes (Some k) = constraint_nodes k

abbrev pub auto_nodes : AutoTree → List Mark
auto_nodes a = maybe_constraint_nodes a.constraint ++ a.mark ∷ []

abbrev pub written_nodes : WrittenType → List Mark
written_nodes (OfType t) = type_nodes t
written_nodes (OfAuto a) = auto_nodes a

abbrev pub init_nodes : InitTree → List Mark
init_nodes (ValueInit e) = expr_nodes e
init_nodes (ListInit m es) = exprs_nodes es ++ m ∷ []

abbrev pub variable_nodes : VariableTree → List Mark
variable_nodes v = written_nodes v.type ++ init_nodes v.init ++ v.mark ∷ []

-- ---- statements

abbrev pub opening_nodes : Opening → List Mark
opening_nodes (OfVariable v) = variable_nodes v
opening_nodes (OfExpr e) = expr_nodes e

abbrev pub maybe_opening_nodes : Option Opening → List Mark
maybe_opening_nodes None = []
maybe_opening_nodes (Some o) = opening_nodes o

abbrev pub head_nodes : ForHead → List Mark
head_nodes h = maybe_opening_nodes h.init ++ maybe_expr_nodes h.condition ++ maybe_expr_nodes h.step

abbrev pub assert_nodes : AssertTree → List Mark
assert_nodes a = expr_nodes a.condition ++ a.mark ∷ []

abbrev mutual
  pub stmt_nodes : StmtTree → List Mark
  stmt_nodes (EmptyStmt m) = m ∷ []
  stmt_nodes (Block m ss) = stmts_nodes ss ++ m ∷ []
  stmt_nodes (AssertStmt a) = assert_nodes a
  stmt_nodes (Break m) = m ∷ []
  stmt_nodes (Continue m) = m ∷ []
  stmt_nodes (Return m e) = maybe_expr_nodes e ++ m ∷ []
  stmt_nodes (If m is_constexpr condition chosen) = expr_nodes condition ++ stmt_nodes chosen ++ m ∷ []
  stmt_nodes (IfElse m is_constexpr condition chosen otherwise) = expr_nodes condition ++ stmt_nodes chosen ++ stmt_nodes otherwise ++ m ∷ []
  stmt_nodes (While m condition body) = expr_nodes condition ++ stmt_nodes body ++ m ∷ []
  stmt_nodes (For m head body) = head_nodes head ++ stmt_nodes body ++ m ∷ []
  stmt_nodes (VariableStmt v) = variable_nodes v
  stmt_nodes (ExprStmt m e) = expr_nodes e ++ m ∷ []

  pub stmts_nodes : StmtTrees → List Mark
  stmts_nodes no_stmt = []
  stmts_nodes (and_stmt s ss) = stmt_nodes s ++ stmts_nodes ss

abbrev pub maybe_stmt_nodes : Option StmtTree → List Mark
maybe_stmt_nodes None = []
maybe_stmt_nodes (Some s) = stmt_nodes s
