-- A plain unit without where it lies in memory.
use Rattle.std.specs.Prelude.{ℕ, ℤ, List, map}
use Rattle.cx_plain.specs.declared.operators.UnaryOperator.{UnaryOperator}
use Rattle.cx_plain.specs.declared.operators.BinaryOperator.{BinaryOperator}
use Rattle.cx_plain.specs.declared.tree.PlainUnit.{PlainUnit}
use Rattle.cx_plain.specs.declared.tree.Struct.{Struct}
use Rattle.cx_plain.specs.declared.tree.Global.{Global}
use Rattle.cx_plain.specs.declared.tree.Function.{Function}
use Rattle.cx_plain.specs.declared.tree.Stmt.{Stmt}
use Rattle.cx_plain.specs.declared.tree.Stmt.TheVariants as stmt
use Rattle.cx_plain.specs.declared.tree.Expr.{Expr}
use Rattle.cx_plain.specs.declared.tree.Expr.TheOpen as layer
use Rattle.cx_plain.specs.declared.tree.Expr.TheOpen.{Expr-F}
use Rattle.cx_plain.specs.declared.tree.Expr.TheFolds.{fold-Expr}

-- a constant; a call of the function of a number; an operator with its operands
pub data PlainExpr : Type 0 where
  PlainConstant : (value : ℤ) → PlainExpr
  PlainCall : (callee : ℕ) → PlainExpr
  PlainUnary : UnaryOperator → PlainExpr → PlainExpr
  PlainBinary : BinaryOperator → (left : PlainExpr) → (right : PlainExpr) → PlainExpr

pub data PlainStmt : Type 0 where
  PlainReturn : (value : PlainExpr) → PlainStmt

pub record PlainFunction : Type 0 where
  pub name : List ℕ
  pub body : PlainStmt

pub record PlainTree : Type 0 where
  pub structs : List Struct
  pub globals : List Global
  pub functions : List PlainFunction

-- ---- what the types of the code stand for

abbrev pub expr_layer : Expr-F PlainExpr → PlainExpr
expr_layer (layer.Constant value) = PlainConstant value
expr_layer (layer.Call callee) = PlainCall callee
expr_layer (layer.Unary operator operand) = PlainUnary operator operand.value
expr_layer (layer.Binary operator left right) = PlainBinary operator left.value right.value

abbrev pub expr_view : Expr → PlainExpr
expr_view = fold-Expr PlainExpr expr_layer

abbrev pub stmt_view : Stmt → PlainStmt
stmt_view (stmt.Return value) = PlainReturn (expr_view value)

abbrev pub function_view : Function → PlainFunction
function_view f = record { name = f.name; body = stmt_view f.body }

abbrev pub plain_tree : PlainUnit → PlainTree
plain_tree u = record { structs = u.structs; globals = u.globals; functions = map function_view u.functions }
