-- The plain unit of a source: its functions in unit order, each call by the number of the function that it names.
use Rattle.std.specs.Prelude.{pos, List, [], map, unwrap_or, Option, Some, None, Result, Ok, if◌then◌else◌}
use Rattle.cx_base.specs.Refusal.{Refusal, ◌>>=◌}
use Rattle.cx_plain.specs.declared.operators.UnaryOperator.TheVariants.{Minus, Complement}
use Rattle.cx_plain.specs.declared.operators.BinaryOperator.{BinaryOperator as PlainOperator}
use Rattle.cx_plain.specs.PlainTree.{PlainExpr, PlainConstant, PlainCall, PlainUnary, PlainBinary, PlainReturn, PlainFunction, PlainTree}
use Rattle.cx_tree.specs.declared.operators.UnaryOperator.{UnaryOperator}
use Rattle.cx_tree.specs.declared.operators.UnaryOperator.TheVariants as unary
use Rattle.cx_tree.specs.Trees.{ExprTree, IntTree, GroupTree, CallTree, UnaryTree, BinaryTree}
use Rattle.cx_tree.specs.Declarations.{UnitTree}
use Rattle.cx_engine.specs.Definitions.{Definition}
use Rattle.cx_engine.specs.Forms.{Mention, mention_of, is_int_literal, plain_operator, forms_unit}
use Rattle.cx_engine.specs.Names.{Declared, declared, number_of, names_unit}

-- A form that is not built has no plain expression. The stage of forms lets none through; here 0 stands in its place.
abbrev pub unbuilt : PlainExpr
unbuilt = PlainConstant (pos 0)

abbrev pub plain_call : List Declared → Option Mention → PlainExpr
plain_call names None = unbuilt
plain_call names (Some c) = PlainCall (unwrap_or (number_of c.name names) 0)

-- a unary plus is its operand
abbrev pub plain_unary : UnaryOperator → PlainExpr → PlainExpr
plain_unary unary.Plus operand = operand
plain_unary unary.Minus operand = PlainUnary Minus operand
plain_unary unary.Complement operand = PlainUnary Complement operand
plain_unary other operand = unbuilt

abbrev pub plain_binary : Option PlainOperator → PlainExpr → PlainExpr → PlainExpr
plain_binary None left right = unbuilt
plain_binary (Some operator) left right = PlainBinary operator left right

-- parentheses are what stands in them
abbrev pub plain_expr : List Declared → ExprTree → PlainExpr
plain_expr names (IntTree m scalar value) = if is_int_literal scalar value then PlainConstant (pos value) else unbuilt
plain_expr names (CallTree m callee arguments) = plain_call names (mention_of callee arguments)
plain_expr names (GroupTree m inner) = plain_expr names inner
plain_expr names (UnaryTree m operator operand) = plain_unary operator (plain_expr names operand)
plain_expr names (BinaryTree m operator left right) = plain_binary (plain_operator operator) (plain_expr names left) (plain_expr names right)
plain_expr names other = unbuilt

abbrev pub plain_function : List Declared → Definition → PlainFunction
plain_function names f = record { name = f.name; body = PlainReturn (plain_expr names f.value) }

abbrev pub plain_unit : List Definition → PlainTree
plain_unit fs = record { structs = []; globals = []; functions = map (plain_function (map declared fs)) fs }

-- The stages behind the grammar: the forms, the names, then the plain unit.
unfoldable pub translated : UnitTree → Result PlainTree Refusal
translated u = do
  fs ← forms_unit u
  _ ← names_unit fs
  Ok (plain_unit fs)
