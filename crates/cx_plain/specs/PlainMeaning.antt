-- What the functions of a plain unit do in a number of steps. A call takes one step.
use Rattle.std.specs.Prelude.{ℕ, zero, suc, ℤ, List, Option, Some, None, slice_get}
use Rattle.cx_base.specs.Outcome.{Outcome, Returned, Undefined, Running}
use Rattle.cx_plain.specs.declared.operators.UnaryOperator.{UnaryOperator}
use Rattle.cx_plain.specs.declared.operators.UnaryOperator.TheVariants as unary
use Rattle.cx_plain.specs.declared.operators.BinaryOperator.{BinaryOperator}
use Rattle.cx_plain.specs.declared.operators.BinaryOperator.TheVariants as binary
use Rattle.cx_plain.specs.Arithmetic.{negation, complement, product, quotient, remainder, sum, difference, bits_and, bits_xor, bits_or}
use Rattle.cx_plain.specs.Evaluation.{and_then, given, called}
use Rattle.cx_plain.specs.PlainTree.{PlainExpr, PlainConstant, PlainCall, PlainUnary, PlainBinary, PlainStmt, PlainReturn, PlainFunction}

abbrev pub unary_result : UnaryOperator → ℤ → Option ℤ
unary_result unary.Minus x = negation x
unary_result unary.Complement x = complement x

abbrev pub binary_result : BinaryOperator → ℤ → ℤ → Option ℤ
binary_result binary.Multiply x y = product x y
binary_result binary.Divide x y = quotient x y
binary_result binary.Remainder x y = remainder x y
binary_result binary.Add x y = sum x y
binary_result binary.Subtract x y = difference x y
binary_result binary.BitAnd x y = bits_and x y
binary_result binary.BitXor x y = bits_xor x y
binary_result binary.BitOr x y = bits_or x y

-- What a call of each function does with a number of steps.
abbrev pub Calls : Type 0
Calls = ℕ → ℕ → Outcome

-- An expression with n steps: operands from left to right.
abbrev pub run_expr : Calls → PlainExpr → ℕ → Outcome
run_expr calls (PlainConstant value) n = Returned value n
run_expr calls (PlainCall k) n = calls k n
run_expr calls (PlainUnary operator operand) n = and_then (run_expr calls operand n) (λ x left. given (unary_result operator x) left)
run_expr calls (PlainBinary operator first second) n =
    and_then (run_expr calls first n) (λ x left. and_then (run_expr calls second left) (λ y left'. given (binary_result operator x y) left'))

abbrev pub run_stmt : Calls → PlainStmt → ℕ → Outcome
run_stmt calls (PlainReturn value) n = run_expr calls value n

abbrev pub run_body : Calls → Option PlainFunction → ℕ → Outcome
run_body calls None n = Undefined
run_body calls (Some f) n = run_stmt calls f.body n

-- Calls of which at most so many are open at once.
unfoldable pub run_call : ℕ → List PlainFunction → Calls
run_call zero functions k n = Running
run_call (suc depth) functions k n = called (run_body (run_call depth functions) (slice_get functions k)) n

-- The function of a number, run with n steps. Each call that is open has taken a step, so more than n are never open.
unfoldable pub run : ℕ → List PlainFunction → ℕ → Outcome
run n functions k = run_body (run_call n functions) (slice_get functions k) n
