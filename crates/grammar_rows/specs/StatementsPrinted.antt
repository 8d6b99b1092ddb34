-- Statements in short: of lists their length.
use Rattle.std.specs.Prelude.{ℕ, zero, suc, ◌+◌, Bool, true, false, List, [], ◌∷◌, ◌++◌, codes, Option, Some, None}
use Rattle.cx_productions.specs.Trees.{ExprTree, IntTree, BoolTree, NameTree, TemplateTree, QualifiedTree, ListTree, GroupTree, StaticCastTree, IsSameTree, OutTree, MemberTree, CallTree, PostfixTree, UnaryTree, BinaryTree, ConditionalTree, AssignmentTree, RequiresTree, ExprTrees, no_expr, and_expr, TypeTree, OfCore, CoreTree, ScalarTree, VoidTree, TypeNameTree, ClassTree, MemberTypeTree, DecltypeTree, ArgumentTrees, no_argument, and_type, and_value, ConstraintTree}
use Rattle.cx_productions.specs.StatementTrees.{WrittenType, OfType, OfAuto, InitTree, ValueInit, ListInit, VariableTree, Opening, OfVariable, OfExpr, StmtTree, EmptyStmt, Block, AssertStmt, Break, Continue, Return, If, IfElse, While, For, VariableStmt, ExprStmt, StmtTrees, no_stmt, and_stmt}
use Rattle.grammar_rows.specs.Printed.{Text, decimal, scalar_text, constant_text, reference_text, truth_text}

abbrev pub expr_count : ExprTrees → ℕ
expr_count no_expr = 0
expr_count (and_expr e es) = 1 + expr_count es

abbrev pub argument_count : ArgumentTrees → ℕ
argument_count no_argument = 0
argument_count (and_type t rest) = 1 + argument_count rest
argument_count (and_value e rest) = 1 + argument_count rest

abbrev pub name_count : List Text → ℕ
name_count [] = 0
name_count (x ∷ xs) = 1 + name_count xs

abbrev pub core_short : CoreTree → Text
core_short (ScalarTree s) = scalar_text s
core_short VoidTree = codes "void"
core_short (TypeNameTree name) = name
core_short (ClassTree name args) = name ++ codes "<" ++ decimal (argument_count args) ++ codes ">"
core_short (MemberTypeTree head names) = codes "typename"
core_short (DecltypeTree e) = codes "decltype"

abbrev pub type_short : TypeTree → Text
type_short (OfCore m constant core_at core reference) = constant_text constant ++ core_short core ++ reference_text reference

abbrev pub expr_short : ExprTree → Text
expr_short (IntTree m s value) = decimal value
expr_short (BoolTree m value) = truth_text value
expr_short (NameTree m name) = name
expr_short (TemplateTree m name args) = name ++ codes "<" ++ decimal (argument_count args) ++ codes ">"
expr_short (QualifiedTree m head names) = type_short head ++ codes "::" ++ decimal (name_count names)
expr_short (ListTree m of items) = type_short of ++ codes "{" ++ decimal (expr_count items) ++ codes "}"
expr_short (GroupTree m inner) = codes "[" ++ expr_short inner ++ codes "]"
expr_short (CallTree m callee args) = expr_short callee ++ codes "(" ++ decimal (expr_count args) ++ codes ")"
expr_short (MemberTree m object name) = expr_short object ++ codes "." ++ name
expr_short (UnaryTree m o operand) = codes "(u " ++ expr_short operand ++ codes ")"
expr_short (PostfixTree m o operand) = codes "(" ++ expr_short operand ++ codes " p)"
expr_short (BinaryTree m o left right) = codes "(" ++ expr_short left ++ codes " ~ " ++ expr_short right ++ codes ")"
expr_short (AssignmentTree m o target value) = codes "(" ++ expr_short target ++ codes " = " ++ expr_short value ++ codes ")"
expr_short (RequiresTree m ps rs) = codes "requires"
expr_short (StaticCastTree m to e) = codes "?"
expr_short (IsSameTree m left right) = codes "?"
expr_short (OutTree m e) = codes "?"
expr_short (ConditionalTree m condition chosen otherwise) = codes "?"

abbrev pub maybe_short : Option ExprTree → Text
maybe_short None = []
maybe_short (Some e) = expr_short e

abbrev pub counted_short : ℕ → Text
counted_short zero = []
counted_short (suc n) = codes "<" ++ decimal (suc n) ++ codes ">"

abbrev pub constraint_short : Option ConstraintTree → Text
constraint_short None = []
constraint_short (Some k) = k.name ++ counted_short (argument_count k.args) ++ codes " "

abbrev pub written_short : WrittenType → Text
written_short (OfType t) = type_short t
written_short (OfAuto a) = constant_text a.constant ++ constraint_short a.constraint ++ codes "auto" ++ reference_text a.reference

abbrev pub init_short : InitTree → Text
init_short (ValueInit e) = codes " = " ++ expr_short e
init_short (ListInit m es) = codes "{" ++ decimal (expr_count es) ++ codes "}"

abbrev pub constexpr_text : Bool → Text
constexpr_text true = codes "constexpr "
constexpr_text false = []

abbrev pub variable_short : VariableTree → Text
variable_short v = constexpr_text v.is_constexpr ++ written_short v.type ++ codes " " ++ v.name ++ init_short v.init

abbrev pub opening_short : Option Opening → Text
opening_short None = []
opening_short (Some (OfVariable v)) = variable_short v
opening_short (Some (OfExpr e)) = expr_short e

abbrev pub message_short : Option Text → Text
message_short None = []
message_short (Some t) = codes ", " ++ t

abbrev pub if_text : Bool → Text
if_text true = codes "if constexpr ("
if_text false = codes "if ("

abbrev mutual
  pub stmt_short : StmtTree → Text
  stmt_short (EmptyStmt m) = codes ";"
  stmt_short (Block m no_stmt) = codes "{}"
  stmt_short (Block m (and_stmt s ss)) = codes "{" ++ stmt_short s ++ stmts_short ss ++ codes "}"
  stmt_short (AssertStmt a) = codes "assert(" ++ expr_short a.condition ++ message_short a.message ++ codes ");"
  stmt_short (Break m) = codes "break;"
  stmt_short (Continue m) = codes "continue;"
  stmt_short (Return m value) = codes "return " ++ maybe_short value ++ codes ";"
  stmt_short (If m is_constexpr condition chosen) = if_text is_constexpr ++ expr_short condition ++ codes ") [" ++ stmt_short chosen ++ codes "]"
  stmt_short (IfElse m is_constexpr condition chosen otherwise) = if_text is_constexpr ++ expr_short condition ++ codes ") [" ++ stmt_short chosen ++ codes "] else [" ++ stmt_short otherwise ++ codes "]"
  stmt_short (While m condition body) = codes "while (" ++ expr_short condition ++ codes ") [" ++ stmt_short body ++ codes "]"
  stmt_short (For m head body) = codes "for (" ++ opening_short head.init ++ codes "; " ++ maybe_short head.condition ++ codes "; " ++ maybe_short head.step ++ codes ") [" ++ stmt_short body ++ codes "]"
  stmt_short (VariableStmt v) = variable_short v ++ codes ";"
  stmt_short (ExprStmt m e) = expr_short e ++ codes ";"

  pub stmts_short : StmtTrees → Text
  stmts_short no_stmt = []
  stmts_short (and_stmt s ss) = codes " " ++ stmt_short s ++ stmts_short ss
