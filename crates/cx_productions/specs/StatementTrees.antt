-- The trees of statements ([stmt.stmt]) and of the variables that they declare.
use Rattle.std.specs.Prelude.{ℕ, Bool, List, [], ◌∷◌, Option}
use Rattle.cx_productions.specs.Trees.{Mark, ExprTree, ExprTrees, TypeTree, ConstraintTree}

-- `auto` with its constraint ([dcl.spec.auto]).
pub record AutoTree : Type 0 where
  pub mark : Mark
  pub constant : Bool
  pub constraint : Option ConstraintTree
  pub reference : Bool

-- The type that a declaration is written with.
pub data WrittenType : Type 0 where
  OfType : TypeTree → WrittenType
  OfAuto : AutoTree → WrittenType

-- An initialiser ([dcl.init]): after `=`, or a list in braces.
pub data InitTree : Type 0 where
  ValueInit : ExprTree → InitTree
  ListInit : Mark → ExprTrees → InitTree

-- A declaration of a variable; its place is that of its name.
pub record VariableTree : Type 0 where
  pub mark : Mark
  pub is_constexpr : Bool
  pub type : WrittenType
  pub name : List ℕ
  pub init : InitTree

-- A variable or an expression, up to its `;`: what a statement without a word of its own is, and what may stand first
-- in the head of a `for`. An expression there is no statement, and no node beside its own.
pub data Opening : Type 0 where
  OfVariable : VariableTree → Opening
  OfExpr : ExprTree → Opening

-- The head of a `for`: what stands first, the condition and the step, if they stand there.
pub record ForHead : Type 0 where
  pub init : Option Opening
  pub condition : Option ExprTree
  pub step : Option ExprTree

-- `static_assert` with its condition, and a text or none ([dcl.pre]).
pub record AssertTree : Type 0 where
  pub mark : Mark
  pub condition : ExprTree
  pub message : Option (List ℕ)

mutual
  pub data StmtTree : Type 0 where
    EmptyStmt : Mark → StmtTree
    Block : Mark → StmtTrees → StmtTree
    AssertStmt : AssertTree → StmtTree
    Break : Mark → StmtTree
    Continue : Mark → StmtTree
    Return : Mark → Option ExprTree → StmtTree
    If : Mark → (is_constexpr : Bool) → (condition : ExprTree) → (then : StmtTree) → StmtTree
    IfElse : Mark → (is_constexpr : Bool) → (condition : ExprTree) → (then : StmtTree) → (otherwise : StmtTree) → StmtTree
    While : Mark → (condition : ExprTree) → (body : StmtTree) → StmtTree
    For : Mark → ForHead → (body : StmtTree) → StmtTree
    VariableStmt : VariableTree → StmtTree
    ExprStmt : Mark → ExprTree → StmtTree

  -- statements in order
  pub data StmtTrees : Type 0 where
    no_stmt : StmtTrees
    and_stmt : StmtTree → StmtTrees → StmtTrees

-- a list in the form that a tree holds
abbrev pub stmts : List StmtTree → StmtTrees
stmts [] = no_stmt
stmts (s ∷ ss) = and_stmt s (stmts ss)

-- a statement's own node
abbrev pub stmt_mark : StmtTree → Mark
stmt_mark (EmptyStmt m) = m
stmt_mark (Block m ss) = m
stmt_mark (AssertStmt a) = a.mark
stmt_mark (Break m) = m
stmt_mark (Continue m) = m
stmt_mark (Return m value) = m
stmt_mark (If m is_constexpr condition then) = m
stmt_mark (IfElse m is_constexpr condition then otherwise) = m
stmt_mark (While m condition body) = m
stmt_mark (For m head body) = m
stmt_mark (VariableStmt v) = v.mark
stmt_mark (ExprStmt m e) = m
