-- Trees in short: each operand in parentheses, parentheses of the text in square brackets.
use Rattle.std.specs.Prelude.{ℕ, zero, suc, ◌+◌, ◌/◌, ◌%◌, ◌==◌, Bool, true, false, List, [], ◌∷◌, ◌++◌, codes, Option, Some, None, if◌then◌else◌}
use Rattle.cx_base.specs.declared.value.Scalar.{Scalar}
use Rattle.cx_base.specs.declared.value.Scalar.TheVariants as scalar
use Rattle.cx_syntax.specs.declared.operators.UnaryOperator.{UnaryOperator}
use Rattle.cx_syntax.specs.declared.operators.UnaryOperator.TheVariants as prefix'
use Rattle.cx_syntax.specs.declared.operators.PostfixOperator.{PostfixOperator}
use Rattle.cx_syntax.specs.declared.operators.PostfixOperator.TheVariants as postfix'
use Rattle.cx_syntax.specs.declared.operators.BinaryOperator.{BinaryOperator}
use Rattle.cx_syntax.specs.declared.operators.BinaryOperator.TheVariants as binary
use Rattle.cx_syntax.specs.declared.operators.AssignmentOperator.{AssignmentOperator}
use Rattle.cx_syntax.specs.declared.operators.AssignmentOperator.TheVariants as assign
use Rattle.cx_productions.specs.Trees.{Mark, ExprTree, IntTree, BoolTree, NameTree, TemplateTree, QualifiedTree, ListTree, GroupTree, StaticCastTree, IsSameTree, OutTree, MemberTree, CallTree, PostfixTree, UnaryTree, BinaryTree, ConditionalTree, AssignmentTree, RequiresTree, ExprTrees, no_expr, and_expr, TypeTree, OfCore, CoreTree, ScalarTree, VoidTree, TypeNameTree, ClassTree, MemberTypeTree, DecltypeTree, ArgumentTrees, no_argument, and_type, and_value, LocalTrees, no_local, and_local, RequirementTrees, no_requirement, and_simple, and_required_type, and_compound, and_constrained, and_nested}

abbrev pub Text : Type 0
Text = List ℕ

abbrev pub digits : ℕ → ℕ → Text
digits zero n = []
digits (suc fuel) n = (if n / 10 == 0 then [] else digits fuel (n / 10)) ++ (48 + n % 10) ∷ []

abbrev pub decimal : ℕ → Text
decimal n = digits 25 n

abbrev pub scalar_text : Scalar → Text
scalar_text scalar.Bool = codes "bool"
scalar_text scalar.Int = codes "int"
scalar_text scalar.Unsigned = codes "unsigned"
scalar_text scalar.LongLong = codes "long long"
scalar_text scalar.ULongLong = codes "unsigned long long"

abbrev pub suffix : Scalar → Text
suffix scalar.Bool = codes "bool"
suffix scalar.Int = []
suffix scalar.Unsigned = codes "u"
suffix scalar.LongLong = codes "ll"
suffix scalar.ULongLong = codes "ull"

abbrev pub unary_text : UnaryOperator → Text
unary_text prefix'.Plus = codes "+"
unary_text prefix'.Minus = codes "-"
unary_text prefix'.Not = codes "!"
unary_text prefix'.Complement = codes "~"
unary_text prefix'.Increment = codes "++"
unary_text prefix'.Decrement = codes "--"

abbrev pub postfix_text : PostfixOperator → Text
postfix_text postfix'.Increment = codes "++"
postfix_text postfix'.Decrement = codes "--"

abbrev pub binary_text : BinaryOperator → Text
binary_text binary.Multiply = codes "*"
binary_text binary.Divide = codes "/"
binary_text binary.Remainder = codes "%"
binary_text binary.Add = codes "+"
binary_text binary.Subtract = codes "-"
binary_text binary.ShiftLeft = codes "<<"
binary_text binary.ShiftRight = codes ">>"
binary_text binary.Less = codes "<"
binary_text binary.LessEqual = codes "<="
binary_text binary.Greater = codes ">"
binary_text binary.GreaterEqual = codes ">="
binary_text binary.Equal = codes "=="
binary_text binary.NotEqual = codes "!="
binary_text binary.BitAnd = codes "&"
binary_text binary.BitXor = codes "^"
binary_text binary.BitOr = codes "|"
binary_text binary.And = codes "&&"
binary_text binary.Or = codes "||"

abbrev pub assignment_text : AssignmentOperator → Text
assignment_text assign.Assign = codes "="
assignment_text assign.Add = codes "+="
assignment_text assign.Subtract = codes "-="
assignment_text assign.Multiply = codes "*="
assignment_text assign.Divide = codes "/="
assignment_text assign.Remainder = codes "%="
assignment_text assign.BitXor = codes "^="
assignment_text assign.BitAnd = codes "&="
assignment_text assign.BitOr = codes "|="
assignment_text assign.ShiftLeft = codes "<<="
assignment_text assign.ShiftRight = codes ">>="

abbrev pub names_text : List Text → Text
names_text [] = []
names_text (n ∷ ns) = codes "::" ++ n ++ names_text ns

abbrev pub constant_text : Bool → Text
constant_text true = codes "const "
constant_text false = []

abbrev pub reference_text : Bool → Text
reference_text true = codes "&"
reference_text false = []

abbrev pub truth_text : Bool → Text
truth_text true = codes "true"
truth_text false = codes "false"

abbrev pub maybe_text : Option Text → Text
maybe_text None = []
maybe_text (Some t) = codes " " ++ t

abbrev mutual
  pub expr_text : ExprTree → Text
  expr_text (IntTree m s value) = decimal value ++ suffix s
  expr_text (BoolTree m value) = truth_text value
  expr_text (NameTree m name) = name
  expr_text (TemplateTree m name args) = name ++ codes "<" ++ argument_text args ++ codes ">"
  expr_text (QualifiedTree m head names) = type_text head ++ names_text names
  expr_text (ListTree m of items) = type_text of ++ codes "{" ++ exprs_text items ++ codes "}"
  expr_text (GroupTree m inner) = codes "[" ++ expr_text inner ++ codes "]"
  expr_text (StaticCastTree m to operand) = codes "static_cast<" ++ type_text to ++ codes ">(" ++ expr_text operand ++ codes ")"
  expr_text (IsSameTree m left right) = codes "__is_same(" ++ type_text left ++ codes ", " ++ type_text right ++ codes ")"
  expr_text (OutTree m operand) = codes "__out(" ++ expr_text operand ++ codes ")"
  expr_text (MemberTree m object name) = codes "(" ++ expr_text object ++ codes "." ++ name ++ codes ")"
  expr_text (CallTree m callee args) = codes "(" ++ expr_text callee ++ codes "(" ++ exprs_text args ++ codes "))"
  expr_text (PostfixTree m o operand) = codes "(" ++ expr_text operand ++ postfix_text o ++ codes ")"
  expr_text (UnaryTree m o operand) = codes "(" ++ unary_text o ++ expr_text operand ++ codes ")"
  expr_text (BinaryTree m o left right) = codes "(" ++ expr_text left ++ codes " " ++ binary_text o ++ codes " " ++ expr_text right ++ codes ")"
  expr_text (ConditionalTree m condition chosen otherwise) = codes "(" ++ expr_text condition ++ codes " ? " ++ expr_text chosen ++ codes " : " ++ expr_text otherwise ++ codes ")"
  expr_text (AssignmentTree m o target value) = codes "(" ++ expr_text target ++ codes " " ++ assignment_text o ++ codes " " ++ expr_text value ++ codes ")"
  expr_text (RequiresTree m ps rs) = codes "requires(" ++ locals_text ps ++ codes "){" ++ requirements_text rs ++ codes "}"

  pub exprs_text : ExprTrees → Text
  exprs_text no_expr = []
  exprs_text (and_expr e no_expr) = expr_text e
  exprs_text (and_expr e (and_expr f es)) = expr_text e ++ codes ", " ++ exprs_text (and_expr f es)

  pub type_text : TypeTree → Text
  type_text (OfCore m constant core_at core reference) = constant_text constant ++ core_text core ++ reference_text reference

  pub core_text : CoreTree → Text
  core_text (ScalarTree s) = scalar_text s
  core_text VoidTree = codes "void"
  core_text (TypeNameTree name) = name
  core_text (ClassTree name args) = name ++ codes "<" ++ argument_text args ++ codes ">"
  core_text (MemberTypeTree head names) = codes "typename " ++ type_text head ++ names_text names
  core_text (DecltypeTree e) = codes "decltype(" ++ expr_text e ++ codes ")"

  pub argument_text : ArgumentTrees → Text
  argument_text no_argument = []
  argument_text (and_type t rest) = codes "type " ++ type_text t ++ rest_text rest
  argument_text (and_value e rest) = expr_text e ++ rest_text rest

  pub rest_text : ArgumentTrees → Text
  rest_text no_argument = []
  rest_text (and_type t rest) = codes ", type " ++ type_text t ++ rest_text rest
  rest_text (and_value e rest) = codes ", " ++ expr_text e ++ rest_text rest

  pub locals_text : LocalTrees → Text
  locals_text no_local = []
  locals_text (and_local m of name rest) = type_text of ++ maybe_text name ++ codes ";" ++ locals_text rest

  pub requirements_text : RequirementTrees → Text
  requirements_text no_requirement = []
  requirements_text (and_simple m e rest) = expr_text e ++ codes ";" ++ requirements_text rest
  requirements_text (and_required_type m t rest) = codes "type " ++ type_text t ++ codes ";" ++ requirements_text rest
  requirements_text (and_compound m e rest) = codes "{" ++ expr_text e ++ codes "};" ++ requirements_text rest
  requirements_text (and_constrained m e at concept args rest) = codes "{" ++ expr_text e ++ codes "}->" ++ concept ++ codes "<" ++ argument_text args ++ codes ">;" ++ requirements_text rest
  requirements_text (and_nested m e rest) = codes "requires " ++ expr_text e ++ codes ";" ++ requirements_text rest

-- the numbers and columns of nodes
abbrev pub marks_text : List Mark → Text
marks_text [] = []
marks_text (m ∷ []) = decimal m.node ++ codes "@" ++ decimal m.at.col
marks_text (m ∷ n ∷ ms) = decimal m.node ++ codes "@" ++ decimal m.at.col ++ codes " " ++ marks_text (n ∷ ms)
