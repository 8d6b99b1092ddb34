-- Which forms are built: functions without parameters that return an int, whose body is one `return` of an expression,
-- and of expressions literals of type int, calls of a name without arguments, parentheses, the unary operators + - ~ and
-- the binary operators + - * / % & ^ |. The stage of forms refuses every other one.
use Rattle.std.specs.Prelude.{◌≡◌, ◌<◌, slice_get, ℕ, Bool, true, false, not, ◌&&◌, ◌||◌, List, [], ◌∷◌, Option, Some, None, is_some, is_none, nat_le, Result, Ok, Err, if◌then◌else◌}
use Rattle.cx_base.specs.Refusal.{Refusal, Refused, ◌>>=◌}
use Rattle.cx_base.specs.declared.fault.Fault.{Fault}
use Rattle.cx_base.specs.declared.kind.Kind.TheVariants as fault
use Rattle.cx_base.specs.declared.place.Place.{Place}
use Rattle.cx_base.specs.declared.value.Scalar.{Scalar}
use Rattle.cx_base.specs.declared.value.Scalar.TheVariants.{Int}
use Rattle.cx_plain.specs.declared.operators.BinaryOperator.{BinaryOperator as PlainOperator}
use Rattle.cx_plain.specs.declared.operators.BinaryOperator.TheVariants as plain
use Rattle.cx_tree.specs.declared.operators.UnaryOperator.{UnaryOperator}
use Rattle.cx_tree.specs.declared.operators.UnaryOperator.TheVariants as unary
use Rattle.cx_tree.specs.declared.operators.BinaryOperator.{BinaryOperator}
use Rattle.cx_tree.specs.declared.operators.BinaryOperator.TheVariants as binary
use Rattle.cx_tree.specs.Trees.{ExprTree, IntTree, NameTree, GroupTree, CallTree, UnaryTree, BinaryTree, ExprTrees, no_expr, TypeTree, OfCore, ScalarTree, expr_mark}
use Rattle.cx_tree.specs.Statements.{StmtTree, Block, Return, StmtTrees, no_stmt, and_stmt, stmt_mark}
use Rattle.cx_tree.specs.Declarations.{Specifiers, ParameterTree, FunctionTree, DeclTree, FunctionDecl, UnitTree, decl_mark}
use Rattle.cx_engine.specs.Definitions.{Definition, definitions}

-- a literal of type int has a value of that type
abbrev pub is_int_literal : Scalar → ℕ → Bool
is_int_literal Int value = nat_le value 2147483647
is_int_literal other value = false

-- A name that is called, and where it stands.
pub record Mention : Type 0 where
  pub name : List ℕ
  pub at : Place

-- what a call names, where it is that of a name without arguments
abbrev pub mention_of : ExprTree → ExprTrees → Option Mention
mention_of (NameTree m name) no_expr = Some (record { name = name; at = m.at })
mention_of other arguments = None

abbrev pub is_built_unary : UnaryOperator → Bool
is_built_unary unary.Plus = true
is_built_unary unary.Minus = true
is_built_unary unary.Complement = true
is_built_unary other = false

-- the operator of plain expressions that a binary operator has, where it is built
abbrev pub plain_operator : BinaryOperator → Option PlainOperator
plain_operator binary.Multiply = Some plain.Multiply
plain_operator binary.Divide = Some plain.Divide
plain_operator binary.Remainder = Some plain.Remainder
plain_operator binary.Add = Some plain.Add
plain_operator binary.Subtract = Some plain.Subtract
plain_operator binary.BitAnd = Some plain.BitAnd
plain_operator binary.BitXor = Some plain.BitXor
plain_operator binary.BitOr = Some plain.BitOr
plain_operator other = None

abbrev pub first_of : Option Place → Option Place → Option Place
first_of None next = next
first_of (Some at) next = Some at

-- The place of the first node of an expression whose form is not built, where there is one: a node before its parts,
-- the parts in the order of the text.
abbrev pub unbuilt_in : ExprTree → Option Place
unbuilt_in (IntTree m scalar value) = if is_int_literal scalar value then None else Some m.at
unbuilt_in (CallTree m callee arguments) = if is_some (mention_of callee arguments) then None else Some m.at
unbuilt_in (GroupTree m inner) = unbuilt_in inner
unbuilt_in (UnaryTree m operator operand) = if is_built_unary operator then unbuilt_in operand else Some m.at
unbuilt_in (BinaryTree m operator left right) = if is_some (plain_operator operator) then first_of (unbuilt_in left) (unbuilt_in right) else Some m.at
unbuilt_in other = Some (expr_mark other).at

-- the type of a result is built where it is `int`
abbrev pub unbuilt_type : TypeTree → Option Place
unbuilt_type (OfCore m false (ScalarTree Int) false) = None
unbuilt_type (OfCore m constant core reference) = Some m.at

-- a statement is built where it is a `return` of a value
abbrev pub unbuilt_stmt : StmtTree → Option Place
unbuilt_stmt (Return m (Some value)) = unbuilt_in value
unbuilt_stmt other = Some (stmt_mark other).at

-- The statements of a block are built where they are one: else the second one is not, and a block without one, which
-- stands here, is not.
abbrev pub unbuilt_stmts : Place → StmtTrees → Option Place
unbuilt_stmts at no_stmt = Some at
unbuilt_stmts at (and_stmt s no_stmt) = unbuilt_stmt s
unbuilt_stmts at (and_stmt s (and_stmt t ss)) = first_of (unbuilt_stmt s) (Some (stmt_mark t).at)

-- a body is a block
abbrev pub unbuilt_body : StmtTree → Option Place
unbuilt_body (Block m ss) = unbuilt_stmts m.at ss
unbuilt_body other = Some (stmt_mark other).at

abbrev pub has_specifiers : Specifiers → Bool
has_specifiers s = s.is_inline || s.is_static || s.is_constexpr

abbrev pub has_parameters : List ParameterTree → Bool
has_parameters [] = false
has_parameters (p ∷ ps) = true

-- no specifiers stand before the function, and it has no parameters, no `const` and no clause behind `requires`
abbrev pub is_built_head : FunctionTree → Bool
is_built_head f = not (has_specifiers f.specifiers) && not (has_parameters f.parameters) && not f.is_const && is_none f.trailing

-- a function with this head, its name here, is built where it has a body: the type of its result stands before that
abbrev pub unbuilt_parts : Bool → Place → TypeTree → Option StmtTree → Option Place
unbuilt_parts true at result (Some body) = first_of (unbuilt_type result) (unbuilt_body body)
unbuilt_parts head at result body = Some at

abbrev pub unbuilt_function : FunctionTree → Option Place
unbuilt_function f = unbuilt_parts (is_built_head f) f.mark.at f.result f.body

-- a declaration is built where it is that of a function
abbrev pub unbuilt_decl : DeclTree → Option Place
unbuilt_decl (FunctionDecl f) = unbuilt_function f
unbuilt_decl other = Some (decl_mark other).at

abbrev pub first_unbuilt : UnitTree → Option Place
first_unbuilt [] = None
first_unbuilt (d ∷ ds) = first_of (unbuilt_decl d) (first_unbuilt ds)

-- The first declaration that has a form that is not built has its first one here.
pub record IsFirstUnbuilt (u : UnitTree) (at : Place) : Type 0 where
  pub number : ℕ
  pub declaration : DeclTree
  pub there : slice_get u number ≡ Some declaration
  pub has : unbuilt_decl declaration ≡ Some at
  pub before : (j : ℕ) (d : DeclTree) → j < number → slice_get u j ≡ Some d → unbuilt_decl d ≡ None

-- A form that is not built.
abbrev pub unsupported : Place → Fault
unsupported at = record { kind = fault.Unsupported; at = at; also = []; chain = [] }

abbrev pub is_built : Option Place → Result (Unit {0}) Refusal
is_built None = Ok tt
is_built (Some at) = Err (Refused (unsupported at))

-- The stage of forms: what a unit defines whose forms are built.
unfoldable pub forms_unit : UnitTree → Result (List Definition) Refusal
forms_unit u = do
  _ ← is_built (first_unbuilt u)
  Ok (definitions u)
