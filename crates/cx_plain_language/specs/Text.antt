-- The one text of a plain unit. Lines end with a newline, and are indented by two spaces for each open brace.
use Rattle.std.specs.Prelude.{ℕ, zero, suc, ◌+◌, ℤ, pos, negsuc, List, [], ◌∷◌, ◌++◌, codes, decimal, Option, Some, None, slice_get, option_and_then, if◌then◌else◌}
use Rattle.std.specs.Ordering.{int_eq}
use Rattle.cx_base.specs.declared.value.Scalar.{Scalar}
use Rattle.cx_base.specs.declared.value.Scalar.TheVariants as scalar
use Rattle.cx_machine.specs.declared.operators.UnaryOperator.{UnaryOperator}
use Rattle.cx_machine.specs.declared.operators.UnaryOperator.TheVariants as unary
use Rattle.cx_machine.specs.declared.operators.BinaryOperator.{BinaryOperator}
use Rattle.cx_machine.specs.declared.operators.BinaryOperator.TheVariants as binary
use Rattle.cx_machine.specs.declared.operators.Comparison.{Comparison}
use Rattle.cx_machine.specs.declared.operators.Comparison.TheVariants as comparison
use Rattle.cx_machine.specs.declared.operators.Update.{Update}
use Rattle.cx_machine.specs.declared.operators.Update.TheVariants as update
use Rattle.cx_plain_language.specs.declared.types.Passing.{Passing}
use Rattle.cx_plain_language.specs.declared.types.Passing.TheVariants as passing
use Rattle.cx_plain_language.specs.Tree.{TypeTree, OfScalar, OfStruct, DeclaredTree, ReturnsTree, NoResult, Result, ExprTree, ConstantTree, LocalTree, GlobalTree, FieldTree, CallTree, PrintTree, StructTree, ConvertTree, DiscardTree, TemporaryTree, UnaryTree, PrefixTree, PostfixTree, BinaryTree, CompareTree, AndTree, OrTree, ChoiceTree, AssignTree, CompoundTree, ExprTrees, no_expr, and_expr, StmtTree, VariableTree, ExpressionTree, IfTree, IfElseTree, LoopTree, BlockTree, BreakTree, ContinueTree, ReturnTree, StmtTrees, no_stmt, and_stmt, LiteralTree, NumberLiteral, StructLiteral, LiteralTrees, no_literal, and_literal, FieldOf, StructOf, GlobalOf, Function, UnitTree}

-- ---- names: sK_NAME, gK_NAME, pK_NAME, vK_NAME, fK_NAME

abbrev pub named : List ℕ → ℕ → List ℕ → List ℕ
named letter k name = letter ++ decimal k ++ codes "_" ++ name

-- the name of what has a number, and none where there is no such thing
abbrev pub name_of : {A : Type 0} → (A → List ℕ) → Option A → List ℕ
name_of name None = []
name_of name (Some x) = name x

unfoldable pub struct_mention : UnitTree → ℕ → List ℕ
struct_mention u k = named (codes "s") k (name_of (λ s. s.name) (slice_get u.structs k))

unfoldable pub global_mention : UnitTree → ℕ → List ℕ
global_mention u k = named (codes "g") k (name_of (λ g. g.name) (slice_get u.globals k))

unfoldable pub function_mention : UnitTree → ℕ → List ℕ
function_mention u k = named (codes "p") k (name_of (λ f. f.name) (slice_get u.functions k))

unfoldable pub local_mention : Function → ℕ → List ℕ
local_mention f k = named (codes "v") k (name_of (λ d. d.name) (slice_get (f.parameters ++ f.locals) k))

unfoldable pub field_mention : UnitTree → ℕ → ℕ → List ℕ
field_mention u of k = named (codes "f") k (name_of (λ d. d.name) (option_and_then (λ s. slice_get s.fields k) (slice_get u.structs of)))

-- ---- types: TYPE, TYPE&, const TYPE&

unfoldable pub scalar_text : Scalar → List ℕ
scalar_text scalar.Bool = codes "bool"
scalar_text scalar.Int = codes "int"
scalar_text scalar.Unsigned = codes "unsigned"
scalar_text scalar.LongLong = codes "long long"
scalar_text scalar.ULongLong = codes "unsigned long long"

unfoldable pub type_text : UnitTree → TypeTree ℕ → List ℕ
type_text u (OfScalar t) = scalar_text t
type_text u (OfStruct k) = struct_mention u k

unfoldable pub passed_text : UnitTree → TypeTree ℕ → Passing → List ℕ
passed_text u t passing.Value = type_text u t
passed_text u t passing.Reference = type_text u t ++ codes "&"
passed_text u t passing.ConstReference = codes "const " ++ type_text u t ++ codes "&"

unfoldable pub returns_text : UnitTree → ReturnsTree ℕ → List ℕ
returns_text u NoResult = codes "void"
returns_text u (Result t how) = passed_text u t how

-- a parameter or a local of a number, as it is declared
unfoldable pub declared_text : UnitTree → ℕ → DeclaredTree ℕ → List ℕ
declared_text u k d = passed_text u d.type d.passing ++ codes " " ++ named (codes "v") k d.name

-- ---- constants: `true`, `false`, a decimal number with the suffix of its type

unfoldable pub suffix : Scalar → List ℕ
suffix scalar.Bool = []
suffix scalar.Int = []
suffix scalar.Unsigned = codes "u"
suffix scalar.LongLong = codes "ll"
suffix scalar.ULongLong = codes "ull"

unfoldable pub number_text : ℤ → List ℕ
number_text (pos n) = decimal n
number_text (negsuc n) = codes "-" ++ decimal (n + 1)

unfoldable pub constant_text : Scalar → ℤ → List ℕ
constant_text scalar.Bool z = if int_eq z (pos 0) then codes "false" else codes "true"
constant_text scalar.Int z = number_text z ++ suffix scalar.Int
constant_text scalar.Unsigned z = number_text z ++ suffix scalar.Unsigned
constant_text scalar.LongLong z = number_text z ++ suffix scalar.LongLong
constant_text scalar.ULongLong z = number_text z ++ suffix scalar.ULongLong

-- ---- lists of texts, joined by a comma and a space

unfoldable pub after_commas : List (List ℕ) → List ℕ
after_commas [] = []
after_commas (t ∷ ts) = codes ", " ++ t ++ after_commas ts

unfoldable pub joined : List (List ℕ) → List ℕ
joined [] = []
joined (t ∷ ts) = t ++ after_commas ts

-- what stands before the text of a number
unfoldable pub comma_before : ℕ → List ℕ
comma_before zero = []
comma_before (suc k) = codes ", "

-- ---- operators

unfoldable pub unary_text : UnaryOperator → List ℕ
unary_text unary.Minus = codes "-"
unary_text unary.Complement = codes "~"
unary_text unary.Not = codes "!"

unfoldable pub update_text : Update → List ℕ
update_text update.Increment = codes "++"
update_text update.Decrement = codes "--"

unfoldable pub binary_text : BinaryOperator → List ℕ
binary_text binary.Multiply = codes "*"
binary_text binary.Divide = codes "/"
binary_text binary.Remainder = codes "%"
binary_text binary.Add = codes "+"
binary_text binary.Subtract = codes "-"
binary_text binary.ShiftLeft = codes "<<"
binary_text binary.ShiftRight = codes ">>"
binary_text binary.BitAnd = codes "&"
binary_text binary.BitXor = codes "^"
binary_text binary.BitOr = codes "|"

unfoldable pub comparison_text : Comparison → List ℕ
comparison_text comparison.Less = codes "<"
comparison_text comparison.LessEqual = codes "<="
comparison_text comparison.Greater = codes ">"
comparison_text comparison.GreaterEqual = codes ">="
comparison_text comparison.Equal = codes "=="
comparison_text comparison.NotEqual = codes "!="

-- ---- expressions

-- (X op X)
abbrev pub between : List ℕ → List ℕ → List ℕ → List ℕ
between left operator right = codes "(" ++ left ++ codes " " ++ operator ++ codes " " ++ right ++ codes ")"

unfoldable mutual
  pub expr_text : UnitTree → Function → ExprTree ℕ ℕ ℕ → List ℕ
  expr_text u f (ConstantTree t z) = constant_text t z
  expr_text u f (LocalTree k) = local_mention f k
  expr_text u f (GlobalTree k) = global_mention u k
  expr_text u f (FieldTree object of k) = expr_text u f object ++ codes "." ++ field_mention u of k
  expr_text u f (CallTree k arguments) = function_mention u k ++ codes "(" ++ joined (exprs_texts u f arguments) ++ codes ")"
  expr_text u f (PrintTree x) = codes "__out(" ++ expr_text u f x ++ codes ")"
  expr_text u f (StructTree k fields) = struct_mention u k ++ codes "{" ++ joined (exprs_texts u f fields) ++ codes "}"
  expr_text u f (ConvertTree to x) = scalar_text to ++ codes "(" ++ expr_text u f x ++ codes ")"
  expr_text u f (DiscardTree x) = codes "void(" ++ expr_text u f x ++ codes ")"
  expr_text u f (TemporaryTree x) = codes "tmp(" ++ expr_text u f x ++ codes ")"
  expr_text u f (UnaryTree operator x) = codes "(" ++ unary_text operator ++ expr_text u f x ++ codes ")"
  expr_text u f (PrefixTree operator x) = codes "(" ++ update_text operator ++ expr_text u f x ++ codes ")"
  expr_text u f (PostfixTree operator x) = codes "(" ++ expr_text u f x ++ update_text operator ++ codes ")"
  expr_text u f (BinaryTree operator x y) = between (expr_text u f x) (binary_text operator) (expr_text u f y)
  expr_text u f (CompareTree operator x y) = between (expr_text u f x) (comparison_text operator) (expr_text u f y)
  expr_text u f (AndTree x y) = between (expr_text u f x) (codes "&&") (expr_text u f y)
  expr_text u f (OrTree x y) = between (expr_text u f x) (codes "||") (expr_text u f y)
  expr_text u f (ChoiceTree c x y) = codes "(" ++ expr_text u f c ++ codes " ? " ++ expr_text u f x ++ codes " : " ++ expr_text u f y ++ codes ")"
  expr_text u f (AssignTree x y) = between (expr_text u f x) (codes "=") (expr_text u f y)
  expr_text u f (CompoundTree operator x y) = between (expr_text u f x) (binary_text operator ++ codes "=") (expr_text u f y)

  pub exprs_texts : UnitTree → Function → ExprTrees ℕ ℕ ℕ → List (List ℕ)
  exprs_texts u f no_expr = []
  exprs_texts u f (and_expr x xs) = expr_text u f x ∷ exprs_texts u f xs

-- ---- statements, each at a number of open braces

unfoldable pub indent : ℕ → List ℕ
indent zero = []
indent (suc depth) = codes "  " ++ indent depth

abbrev pub step_text : UnitTree → Function → Option (ExprTree ℕ ℕ ℕ) → List ℕ
step_text u f None = []
step_text u f (Some x) = codes " " ++ expr_text u f x

abbrev pub return_text : UnitTree → Function → Option (ExprTree ℕ ℕ ℕ) → List ℕ
return_text u f None = codes "return;\n"
return_text u f (Some x) = codes "return " ++ expr_text u f x ++ codes ";\n"

-- the declaration of the local of a number; none where there is no such local
unfoldable pub local_text : UnitTree → Function → ℕ → List ℕ
local_text u f k = name_of (declared_text u k) (slice_get (f.parameters ++ f.locals) k)

unfoldable mutual
  pub stmt_text : UnitTree → Function → ℕ → StmtTree ℕ (Unit {0}) ℕ ℕ → List ℕ
  stmt_text u f depth (VariableTree k x) = indent depth ++ local_text u f k ++ codes " = " ++ expr_text u f x ++ codes ";\n"
  stmt_text u f depth (ExpressionTree x) = indent depth ++ expr_text u f x ++ codes ";\n"
  stmt_text u f depth (IfTree c body) = indent depth ++ codes "if (" ++ expr_text u f c ++ codes ") {\n" ++ stmts_text u f (suc depth) body ++ indent depth ++ codes "}\n"
  stmt_text u f depth (IfElseTree c first second) =
      indent depth ++ codes "if (" ++ expr_text u f c ++ codes ") {\n" ++ stmts_text u f (suc depth) first ++ indent depth ++ codes "} else {\n" ++ stmts_text u f (suc depth) second ++ indent depth ++ codes "}\n"
  stmt_text u f depth (LoopTree label c step body) =
      indent depth ++ codes "for (; " ++ expr_text u f c ++ codes ";" ++ step_text u f step ++ codes ") {\n" ++ stmts_text u f (suc depth) body ++ indent depth ++ codes "}\n"
  stmt_text u f depth (BlockTree body) = indent depth ++ codes "{\n" ++ stmts_text u f (suc depth) body ++ indent depth ++ codes "}\n"
  stmt_text u f depth BreakTree = indent depth ++ codes "break;\n"
  stmt_text u f depth ContinueTree = indent depth ++ codes "continue;\n"
  stmt_text u f depth (ReturnTree x) = indent depth ++ return_text u f x

  pub stmts_text : UnitTree → Function → ℕ → StmtTrees ℕ (Unit {0}) ℕ ℕ → List ℕ
  stmts_text u f depth no_stmt = []
  stmts_text u f depth (and_stmt s ss) = stmt_text u f depth s ++ stmts_text u f depth ss

-- ---- globals

unfoldable mutual
  pub literal_text : UnitTree → LiteralTree ℕ → List ℕ
  literal_text u (NumberLiteral t z) = constant_text t z
  literal_text u (StructLiteral k values) = struct_mention u k ++ codes "{" ++ joined (literals_texts u values) ++ codes "}"

  pub literals_texts : UnitTree → LiteralTrees ℕ → List (List ℕ)
  literals_texts u no_literal = []
  literals_texts u (and_literal l ls) = literal_text u l ∷ literals_texts u ls

-- ---- units

-- the texts of things that are numbered from k on
abbrev pub numbered : {A : Type 0} → (ℕ → A → List ℕ) → ℕ → List A → List (List ℕ)
numbered text k [] = []
numbered text k (x ∷ xs) = text k x ∷ numbered text (suc k) xs

abbrev pub concatenated : List (List ℕ) → List ℕ
concatenated [] = []
concatenated (t ∷ ts) = t ++ concatenated ts

unfoldable pub field_text : UnitTree → ℕ → FieldOf → List ℕ
field_text u k d = codes "  " ++ type_text u d.type ++ codes " " ++ named (codes "f") k d.name ++ codes ";\n"

unfoldable pub struct_text : UnitTree → ℕ → StructOf → List ℕ
struct_text u k s = codes "struct " ++ named (codes "s") k s.name ++ codes " {\n" ++ concatenated (numbered (field_text u) 0 s.fields) ++ codes "};\n"

unfoldable pub global_text : UnitTree → ℕ → GlobalOf → List ℕ
global_text u k g = codes "constexpr " ++ type_text u g.type ++ codes " " ++ named (codes "g") k g.name ++ codes " = " ++ literal_text u g.value ++ codes ";\n"

unfoldable pub head_text : UnitTree → ℕ → Function → List ℕ
head_text u k f = returns_text u f.returns ++ codes " " ++ named (codes "p") k f.name ++ codes "(" ++ joined (numbered (declared_text u) 0 f.parameters) ++ codes ")"

unfoldable pub prototype_text : UnitTree → ℕ → Function → List ℕ
prototype_text u k f = head_text u k f ++ codes ";\n"

unfoldable pub function_text : UnitTree → ℕ → Function → List ℕ
function_text u k f = head_text u k f ++ codes " {\n" ++ stmts_text u f 1 f.body ++ codes "}\n"

-- The first line, then structs, globals, prototypes and functions.
unfoldable pub unit_text : UnitTree → List ℕ
unit_text u =
    codes "// plain 1\n" ++ concatenated (numbered (struct_text u) 0 u.structs) ++ concatenated (numbered (global_text u) 0 u.globals)
    ++ concatenated (numbered (prototype_text u) 0 u.functions) ++ concatenated (numbered (function_text u) 0 u.functions)
