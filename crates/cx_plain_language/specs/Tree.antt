-- Plain trees without where they lie in memory. A call names its function by a C, a loop carries an L, a struct is named
-- by an S and a global by a G. Parameters and locals are numbered together, the parameters first; fields in their struct.
use Rattle.std.specs.Prelude.{ℕ, ℤ, List, [], ◌∷◌, Option}
use Rattle.cx_base.specs.declared.value.Scalar.{Scalar}
use Rattle.cx_machine.specs.declared.operators.UnaryOperator.{UnaryOperator}
use Rattle.cx_machine.specs.declared.operators.BinaryOperator.{BinaryOperator}
use Rattle.cx_machine.specs.declared.operators.Comparison.{Comparison}
use Rattle.cx_machine.specs.declared.operators.Update.{Update}
use Rattle.cx_plain_language.specs.declared.types.Passing.{Passing}

pub data TypeTree (S : Type 0) : Type 0 where
  OfScalar : Scalar → TypeTree S
  OfStruct : S → TypeTree S

pub record DeclaredTree (S : Type 0) : Type 0 where
  pub type : TypeTree S
  pub passing : Passing
  pub name : List ℕ

pub data ReturnsTree (S : Type 0) : Type 0 where
  NoResult : ReturnsTree S
  Result : TypeTree S → Passing → ReturnsTree S

mutual
  pub data ExprTree (C S G : Type 0) : Type 0 where
    ConstantTree : Scalar → ℤ → ExprTree C S G
    LocalTree : ℕ → ExprTree C S G
    GlobalTree : G → ExprTree C S G
    FieldTree : ExprTree C S G → S → ℕ → ExprTree C S G
    CallTree : C → ExprTrees C S G → ExprTree C S G
    PrintTree : ExprTree C S G → ExprTree C S G
    StructTree : S → ExprTrees C S G → ExprTree C S G
    ConvertTree : Scalar → ExprTree C S G → ExprTree C S G
    DiscardTree : ExprTree C S G → ExprTree C S G
    TemporaryTree : ExprTree C S G → ExprTree C S G
    UnaryTree : UnaryOperator → ExprTree C S G → ExprTree C S G
    PrefixTree : Update → ExprTree C S G → ExprTree C S G
    PostfixTree : Update → ExprTree C S G → ExprTree C S G
    BinaryTree : BinaryOperator → ExprTree C S G → ExprTree C S G → ExprTree C S G
    CompareTree : Comparison → ExprTree C S G → ExprTree C S G → ExprTree C S G
    AndTree : ExprTree C S G → ExprTree C S G → ExprTree C S G
    OrTree : ExprTree C S G → ExprTree C S G → ExprTree C S G
    ChoiceTree : ExprTree C S G → ExprTree C S G → ExprTree C S G → ExprTree C S G
    AssignTree : ExprTree C S G → ExprTree C S G → ExprTree C S G
    CompoundTree : BinaryOperator → ExprTree C S G → ExprTree C S G → ExprTree C S G

  pub data ExprTrees (C S G : Type 0) : Type 0 where
    no_expr : ExprTrees C S G
    and_expr : ExprTree C S G → ExprTrees C S G → ExprTrees C S G

mutual
  pub data StmtTree (C L S G : Type 0) : Type 0 where
    VariableTree : ℕ → ExprTree C S G → StmtTree C L S G
    ExpressionTree : ExprTree C S G → StmtTree C L S G
    IfTree : ExprTree C S G → StmtTrees C L S G → StmtTree C L S G
    IfElseTree : ExprTree C S G → StmtTrees C L S G → StmtTrees C L S G → StmtTree C L S G
    LoopTree : L → ExprTree C S G → Option (ExprTree C S G) → StmtTrees C L S G → StmtTree C L S G
    BlockTree : StmtTrees C L S G → StmtTree C L S G
    BreakTree : StmtTree C L S G
    ContinueTree : StmtTree C L S G
    ReturnTree : Option (ExprTree C S G) → StmtTree C L S G

  pub data StmtTrees (C L S G : Type 0) : Type 0 where
    no_stmt : StmtTrees C L S G
    and_stmt : StmtTree C L S G → StmtTrees C L S G → StmtTrees C L S G

mutual
  pub data LiteralTree (S : Type 0) : Type 0 where
    NumberLiteral : Scalar → ℤ → LiteralTree S
    StructLiteral : S → LiteralTrees S → LiteralTree S

  pub data LiteralTrees (S : Type 0) : Type 0 where
    no_literal : LiteralTrees S
    and_literal : LiteralTree S → LiteralTrees S → LiteralTrees S

-- A function, which is generic in what it carries.
pub record FnTree (C L S G : Type 0) : Type 0 where
  pub name : List ℕ
  pub returns : ReturnsTree S
  pub parameters : List (DeclaredTree S)
  pub locals : List (DeclaredTree S)
  pub body : StmtTrees C L S G

-- ---- a unit, in which functions, structs and globals are named by their numbers

pub record FieldOf : Type 0 where
  pub type : TypeTree ℕ
  pub name : List ℕ

pub record StructOf : Type 0 where
  pub name : List ℕ
  pub fields : List FieldOf

pub record GlobalOf : Type 0 where
  pub type : TypeTree ℕ
  pub name : List ℕ
  pub value : LiteralTree ℕ

abbrev pub Function : Type 0
Function = FnTree ℕ (Unit {0}) ℕ ℕ

pub record UnitTree : Type 0 where
  pub structs : List StructOf
  pub globals : List GlobalOf
  pub functions : List Function

-- ---- lists of trees

abbrev pub exprs : {C S G : Type 0} → List (ExprTree C S G) → ExprTrees C S G
exprs [] = no_expr
exprs (e ∷ es) = and_expr e (exprs es)

abbrev pub stmts : {C L S G : Type 0} → List (StmtTree C L S G) → StmtTrees C L S G
stmts [] = no_stmt
stmts (s ∷ ss) = and_stmt s (stmts ss)

abbrev pub literals : {S : Type 0} → List (LiteralTree S) → LiteralTrees S
literals [] = no_literal
literals (l ∷ ls) = and_literal l (literals ls)
