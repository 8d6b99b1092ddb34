-- When a plain unit is typed. Plain typing knows no const.
use Rattle.std.specs.Prelude.{ℕ, zero, suc, ◌+◌, Bool, true, false, ◌&&◌, ◌||◌, not, ◌==◌, List, [], ◌∷◌, ◌++◌, length, Option, Some, None, is_some, slice_get, option_and_then, option_map, if◌then◌else◌, nat_lt, IsTrue}
use Rattle.cx_base.specs.declared.value.Scalar.{Scalar}
use Rattle.cx_base.specs.declared.value.Scalar.TheVariants as scalar
use Rattle.cx_machine.specs.Scalars.{width, is_signed, is_value}
use Rattle.cx_machine.specs.Values.{is_shift}
use Rattle.cx_machine.specs.declared.operators.UnaryOperator.{UnaryOperator}
use Rattle.cx_machine.specs.declared.operators.UnaryOperator.TheVariants as unary
use Rattle.cx_machine.specs.declared.operators.BinaryOperator.{BinaryOperator}
use Rattle.cx_plain_language.specs.declared.types.Passing.{Passing}
use Rattle.cx_plain_language.specs.declared.types.Passing.TheVariants as passing
use Rattle.cx_plain_language.specs.Tree.{TypeTree, OfScalar, OfStruct, DeclaredTree, ReturnsTree, NoResult, Result, ExprTree, ConstantTree, LocalTree, GlobalTree, FieldTree, CallTree, PrintTree, StructTree, ConvertTree, DiscardTree, TemporaryTree, UnaryTree, PrefixTree, PostfixTree, BinaryTree, CompareTree, AndTree, OrTree, ChoiceTree, AssignTree, CompoundTree, ExprTrees, no_expr, and_expr, StmtTree, VariableTree, ExpressionTree, IfTree, IfElseTree, LoopTree, BlockTree, BreakTree, ContinueTree, ReturnTree, StmtTrees, no_stmt, and_stmt, LiteralTree, NumberLiteral, StructLiteral, LiteralTrees, no_literal, and_literal, FieldOf, StructOf, GlobalOf, Function, UnitTree}

-- ---- types

abbrev pub same_bool : Bool → Bool → Bool
same_bool true b = b
same_bool false b = not b

-- each scalar type has a width and a sign of its own
abbrev pub same_scalar : Scalar → Scalar → Bool
same_scalar t u = (width t == width u) && same_bool (is_signed t) (is_signed u)

abbrev pub same_type : TypeTree ℕ → TypeTree ℕ → Bool
same_type (OfScalar t) (OfScalar u) = same_scalar t u
same_type (OfScalar t) (OfStruct j) = false
same_type (OfStruct k) (OfScalar u) = false
same_type (OfStruct k) (OfStruct j) = k == j

abbrev pub is_bool : TypeTree ℕ → Bool
is_bool t = same_type t (OfScalar scalar.Bool)

abbrev pub is_scalar : TypeTree ℕ → Bool
is_scalar (OfScalar t) = true
is_scalar (OfStruct k) = false

-- an integer type that is not bool; the promoted types are these
abbrev pub is_integer : TypeTree ℕ → Bool
is_integer t = is_scalar t && not (is_bool t)

-- What an expression is: void, a value of a type, or a place of a type.
pub data Typed : Type 0 where
  Void : Typed
  Value : TypeTree ℕ → Typed
  AtPlace : TypeTree ℕ → Typed

-- the type of a value or of what is read at a place
abbrev pub type_in : Typed → Option (TypeTree ℕ)
type_in Void = None
type_in (Value t) = Some t
type_in (AtPlace t) = Some t

abbrev pub place_type : Typed → Option (TypeTree ℕ)
place_type Void = None
place_type (Value t) = None
place_type (AtPlace t) = Some t

-- the types of two expressions are these
abbrev pub both : {A B : Type 0} → Option A → Option B → (A → B → Option Typed) → Option Typed
both None b next = None
both (Some x) None next = None
both (Some x) (Some y) next = next x y

abbrev pub only_if : {A : Type 0} → Bool → A → Option A
only_if b x = if b then Some x else None

-- whether an expression is what a parameter, an initialiser or a result wants: exactly its type, and a place for a reference
abbrev pub fits_type : TypeTree ℕ → Option (TypeTree ℕ) → Bool
fits_type t None = false
fits_type t (Some u) = same_type t u

abbrev pub fits : TypeTree ℕ → Passing → Typed → Bool
fits t passing.Value x = fits_type t (type_in x)
fits t passing.Reference x = fits_type t (place_type x)
fits t passing.ConstReference x = fits_type t (place_type x)

abbrev pub argument_fits : DeclaredTree ℕ → Option Typed → Bool
argument_fits d None = false
argument_fits d (Some x) = fits d.type d.passing x

-- ---- expressions

-- What may be mentioned: what the unit declares, the variables of the function, and which of them by now.
pub record Scope : Type 0 where
  pub unit : UnitTree
  pub variables : List (DeclaredTree ℕ)
  pub visible : List ℕ

abbrev pub contains : ℕ → List ℕ → Bool
contains k [] = false
contains k (j ∷ js) = (k == j) || contains k js

abbrev pub local_type : Scope → ℕ → Option Typed
local_type s k = if contains k s.visible then option_map (λ d. AtPlace d.type) (slice_get s.variables k) else None

abbrev pub field_at : UnitTree → ℕ → ℕ → Option FieldOf
field_at u of k = option_and_then (λ s. slice_get s.fields k) (slice_get u.structs of)

-- a field of a place is a place, and of a value a value
abbrev pub field_type : Typed → ℕ → Option FieldOf → Option Typed
field_type x of None = None
field_type Void of (Some d) = None
field_type (Value t) of (Some d) = only_if (same_type t (OfStruct of)) (Value d.type)
field_type (AtPlace t) of (Some d) = only_if (same_type t (OfStruct of)) (AtPlace d.type)

abbrev pub result_type : ReturnsTree ℕ → Typed
result_type NoResult = Void
result_type (Result t passing.Value) = Value t
result_type (Result t passing.Reference) = AtPlace t
result_type (Result t passing.ConstReference) = AtPlace t

abbrev pub converted_type : Scalar → TypeTree ℕ → Option Typed
converted_type to t = only_if (is_scalar t && not (same_type t (OfScalar to))) (Value (OfScalar to))

abbrev pub unary_typed : UnaryOperator → TypeTree ℕ → Option Typed
unary_typed unary.Minus t = only_if (is_integer t) (Value t)
unary_typed unary.Complement t = only_if (is_integer t) (Value t)
unary_typed unary.Not t = only_if (is_bool t) (Value t)

-- one and the same promoted type; for a shift two promoted types
abbrev pub binary_typed : BinaryOperator → TypeTree ℕ → TypeTree ℕ → Option Typed
binary_typed operator t u = only_if (is_integer t && is_integer u && (is_shift operator || same_type t u)) (Value t)

abbrev pub logical : TypeTree ℕ → TypeTree ℕ → Option Typed
logical t u = only_if (is_bool t && is_bool u) (Value t)

-- the two parts of a choice have one type; it is a place where both are
abbrev pub choice_of : Typed → Typed → Option Typed
choice_of Void Void = Some Void
choice_of Void (Value u) = None
choice_of Void (AtPlace u) = None
choice_of (Value t) Void = None
choice_of (Value t) (Value u) = only_if (same_type t u) (Value t)
choice_of (Value t) (AtPlace u) = only_if (same_type t u) (Value t)
choice_of (AtPlace t) Void = None
choice_of (AtPlace t) (Value u) = only_if (same_type t u) (Value t)
choice_of (AtPlace t) (AtPlace u) = only_if (same_type t u) (AtPlace t)

abbrev pub conditional : TypeTree ℕ → Option Typed → Option Typed
conditional c x = if is_bool c then x else None

abbrev mutual
  pub type_of : Scope → ExprTree ℕ ℕ ℕ → Option Typed
  type_of s (ConstantTree t z) = only_if (is_value t z) (Value (OfScalar t))
  type_of s (LocalTree k) = local_type s k
  type_of s (GlobalTree k) = option_map (λ g. AtPlace g.type) (slice_get s.unit.globals k)
  type_of s (FieldTree object of k) = option_and_then (λ x. field_type x of (field_at s.unit of k)) (type_of s object)
  type_of s (CallTree k arguments) = option_and_then (λ f. only_if (arguments_fit s f.parameters arguments) (result_type f.returns)) (slice_get s.unit.functions k)
  type_of s (PrintTree x) = option_and_then (λ t. only_if (same_type t (OfScalar scalar.LongLong)) Void) (option_and_then type_in (type_of s x))
  type_of s (StructTree k fields) = option_and_then (λ d. only_if (fields_fit s d.fields fields) (Value (OfStruct k))) (slice_get s.unit.structs k)
  type_of s (ConvertTree to x) = option_and_then (converted_type to) (option_and_then type_in (type_of s x))
  type_of s (DiscardTree x) = option_map (λ t. Void) (type_of s x)
  type_of s (TemporaryTree x) = option_map AtPlace (option_and_then type_in (type_of s x))
  type_of s (UnaryTree operator x) = option_and_then (unary_typed operator) (option_and_then type_in (type_of s x))
  type_of s (PrefixTree operator x) = option_and_then (λ t. only_if (is_integer t) (AtPlace t)) (option_and_then place_type (type_of s x))
  type_of s (PostfixTree operator x) = option_and_then (λ t. only_if (is_integer t) (Value t)) (option_and_then place_type (type_of s x))
  type_of s (BinaryTree operator x y) = both (option_and_then type_in (type_of s x)) (option_and_then type_in (type_of s y)) (binary_typed operator)
  type_of s (CompareTree operator x y) =
      both (option_and_then type_in (type_of s x)) (option_and_then type_in (type_of s y)) (λ t u. only_if (is_integer t && same_type t u) (Value (OfScalar scalar.Bool)))
  type_of s (AndTree x y) = both (option_and_then type_in (type_of s x)) (option_and_then type_in (type_of s y)) logical
  type_of s (OrTree x y) = both (option_and_then type_in (type_of s x)) (option_and_then type_in (type_of s y)) logical
  type_of s (ChoiceTree c x y) = option_and_then (λ t. conditional t (both (type_of s x) (type_of s y) choice_of)) (option_and_then type_in (type_of s c))
  type_of s (AssignTree x y) = both (option_and_then place_type (type_of s x)) (option_and_then type_in (type_of s y)) (λ t u. only_if (same_type t u) (AtPlace t))
  type_of s (CompoundTree operator x y) =
      both (option_and_then place_type (type_of s x)) (option_and_then type_in (type_of s y)) (λ t u. only_if (is_scalar t && is_integer u) (AtPlace t))

  -- each argument fits its parameter, and there are as many
  pub arguments_fit : Scope → List (DeclaredTree ℕ) → ExprTrees ℕ ℕ ℕ → Bool
  arguments_fit s [] no_expr = true
  arguments_fit s [] (and_expr x xs) = false
  arguments_fit s (d ∷ ds) no_expr = false
  arguments_fit s (d ∷ ds) (and_expr x xs) = argument_fits d (type_of s x) && arguments_fit s ds xs

  -- the value of each field, and there are as many
  pub fields_fit : Scope → List FieldOf → ExprTrees ℕ ℕ ℕ → Bool
  fields_fit s [] no_expr = true
  fields_fit s [] (and_expr x xs) = false
  fields_fit s (d ∷ ds) no_expr = false
  fields_fit s (d ∷ ds) (and_expr x xs) = fits_type d.type (option_and_then type_in (type_of s x)) && fields_fit s ds xs

-- ---- statements

-- The number of the next local that is declared, and the variables that may be named by now.
pub record Declaring : Type 0 where
  pub next : ℕ
  pub visible : List ℕ

abbrev pub scope : UnitTree → Function → Declaring → Scope
scope u f d = record { unit = u; variables = f.parameters ++ f.locals; visible = d.visible }

-- a local is declared with the next number, and may be named behind its declaration
abbrev pub declares : UnitTree → Function → Declaring → ℕ → ExprTree ℕ ℕ ℕ → Option (DeclaredTree ℕ) → Option Declaring
declares u f d n x None = None
declares u f d n x (Some v) = only_if ((n == d.next) && argument_fits v (type_of (scope u f d) x)) (record { next = suc d.next; visible = n ∷ d.visible })

abbrev pub is_condition : Option Typed → Bool
is_condition None = false
is_condition (Some x) = fits_type (OfScalar scalar.Bool) (type_in x)

abbrev pub is_step : UnitTree → Function → Declaring → Option (ExprTree ℕ ℕ ℕ) → Bool
is_step u f d None = true
is_step u f d (Some x) = is_some (type_of (scope u f d) x)

abbrev pub is_void : Option Typed → Bool
is_void None = false
is_void (Some Void) = true
is_void (Some (Value t)) = false
is_void (Some (AtPlace t)) = false

-- `return;` stands only in a function whose result is void; `return X;` there with a void X
abbrev pub is_return : UnitTree → Function → Declaring → ReturnsTree ℕ → Option (ExprTree ℕ ℕ ℕ) → Bool
is_return u f d NoResult None = true
is_return u f d NoResult (Some x) = is_void (type_of (scope u f d) x)
is_return u f d (Result t how) None = false
is_return u f d (Result t how) (Some x) = argument_fits (record { type = t; passing = how; name = [] }) (type_of (scope u f d) x)

-- behind a block its locals may no longer be named, but their numbers are used
abbrev pub left : Declaring → Declaring → Declaring
left outer inner = record { next = inner.next; visible = outer.visible }

-- Statements of a function, within a loop or not. What is declared behind them; nothing where one is not typed.
abbrev mutual
  pub typed_stmt : UnitTree → Function → Bool → Declaring → StmtTree ℕ (Unit {0}) ℕ ℕ → Option Declaring
  typed_stmt u f in_loop d (VariableTree n x) = declares u f d n x (slice_get (f.parameters ++ f.locals) n)
  typed_stmt u f in_loop d (ExpressionTree x) = only_if (is_some (type_of (scope u f d) x)) d
  typed_stmt u f in_loop d (IfTree c body) = if is_condition (type_of (scope u f d) c) then option_map (left d) (typed_stmts u f in_loop d body) else None
  typed_stmt u f in_loop d (IfElseTree c first second) =
      if is_condition (type_of (scope u f d) c) then option_and_then (λ e. option_map (left d) (typed_stmts u f in_loop (left d e) second)) (typed_stmts u f in_loop d first) else None
  typed_stmt u f in_loop d (LoopTree label c step body) = if is_condition (type_of (scope u f d) c) && is_step u f d step then option_map (left d) (typed_stmts u f true d body) else None
  typed_stmt u f in_loop d (BlockTree body) = option_map (left d) (typed_stmts u f in_loop d body)
  typed_stmt u f in_loop d BreakTree = only_if in_loop d
  typed_stmt u f in_loop d ContinueTree = only_if in_loop d
  typed_stmt u f in_loop d (ReturnTree x) = only_if (is_return u f d f.returns x) d

  pub typed_stmts : UnitTree → Function → Bool → Declaring → StmtTrees ℕ (Unit {0}) ℕ ℕ → Option Declaring
  typed_stmts u f in_loop d no_stmt = Some d
  typed_stmts u f in_loop d (and_stmt s ss) = option_and_then (λ e. typed_stmts u f in_loop e ss) (typed_stmt u f in_loop d s)

-- ---- units

-- a type that mentions a struct of the first so many
abbrev pub is_declared : ℕ → TypeTree ℕ → Bool
is_declared count (OfScalar t) = true
is_declared count (OfStruct k) = nat_lt k count

abbrev pub each : {A : Type 0} → (A → Bool) → List A → Bool
each p [] = true
each p (x ∷ xs) = p x && each p xs

-- structs stand behind the structs of their fields; the first of these has the number k
abbrev pub typed_structs : ℕ → List StructOf → Bool
typed_structs k [] = true
typed_structs k (s ∷ ss) = each (λ d. is_declared k d.type) s.fields && typed_structs (suc k) ss

abbrev pub fields_of : UnitTree → ℕ → Option (List FieldOf)
fields_of u k = option_map (λ s. s.fields) (slice_get u.structs k)

abbrev mutual
  pub literal_fits : UnitTree → TypeTree ℕ → LiteralTree ℕ → Bool
  literal_fits u t (NumberLiteral scalar z) = same_type t (OfScalar scalar) && is_value scalar z
  literal_fits u t (StructLiteral k values) = same_type t (OfStruct k) && literals_fit u (fields_of u k) values

  pub literals_fit : UnitTree → Option (List FieldOf) → LiteralTrees ℕ → Bool
  literals_fit u None values = false
  literals_fit u (Some []) no_literal = true
  literals_fit u (Some []) (and_literal l ls) = false
  literals_fit u (Some (d ∷ ds)) no_literal = false
  literals_fit u (Some (d ∷ ds)) (and_literal l ls) = literal_fits u d.type l && literals_fit u (Some ds) ls

abbrev pub typed_global : UnitTree → GlobalOf → Bool
typed_global u g = is_declared (length u.structs) g.type && literal_fits u g.type g.value

abbrev pub typed_returns : UnitTree → ReturnsTree ℕ → Bool
typed_returns u NoResult = true
typed_returns u (Result t how) = is_declared (length u.structs) t

-- the numbers below n
abbrev pub below : ℕ → List ℕ
below zero = []
below (suc n) = n ∷ below n

-- all locals are declared in the body, each once and in the order of their numbers
abbrev pub all_declared : Function → Option Declaring → Bool
all_declared f None = false
all_declared f (Some d) = d.next == (length f.parameters + length f.locals)

abbrev pub typed_function : UnitTree → Function → Bool
typed_function u f =
    typed_returns u f.returns && each (λ d. is_declared (length u.structs) d.type) (f.parameters ++ f.locals)
    && all_declared f (typed_stmts u f false (record { next = length f.parameters; visible = below (length f.parameters) }) f.body)

abbrev pub is_typed : UnitTree → Bool
is_typed u = typed_structs 0 u.structs && each (typed_global u) u.globals && each (typed_function u) u.functions

-- A unit is typed.
unfoldable pub IsTyped : UnitTree → Type 0
IsTyped u = IsTrue (is_typed u)
