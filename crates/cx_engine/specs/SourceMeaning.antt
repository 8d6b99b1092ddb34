-- What the functions of a unit do in a number of steps ([expr], [stmt.return]). A call takes one step.
use Rattle.std.specs.Prelude.{◌≡◌, ℕ, zero, suc, ℤ, pos, List, [], ◌∷◌, Option, Some, None, Ok, slice_get, if◌then◌else◌}
use Rattle.std.specs.Str.{bytes_eq}
use Rattle.cx_base.specs.Outcome.{Outcome, Returned, Undefined, Running}
use Rattle.cx_base.specs.declared.value.Scalar.TheVariants.{Int}
use Rattle.cx_plain.specs.Arithmetic.{negation, complement, product, quotient, remainder, sum, difference, bits_and, bits_xor, bits_or}
use Rattle.cx_plain.specs.Evaluation.{and_then, given, called}
use Rattle.cx_plain.specs.PlainTree.{PlainTree}
use Rattle.cx_plain.specs.PlainMeaning.{run}
use Rattle.cx_tree.specs.declared.operators.UnaryOperator.{UnaryOperator}
use Rattle.cx_tree.specs.declared.operators.UnaryOperator.TheVariants as unary
use Rattle.cx_tree.specs.declared.operators.BinaryOperator.{BinaryOperator}
use Rattle.cx_tree.specs.declared.operators.BinaryOperator.TheVariants as binary
use Rattle.cx_tree.specs.Trees.{ExprTree, IntTree, GroupTree, CallTree, UnaryTree, BinaryTree}
use Rattle.cx_tree.specs.Declarations.{UnitTree}
use Rattle.cx_engine.specs.Definitions.{Definition}
use Rattle.cx_engine.specs.Forms.{Mention, mention_of, forms_unit}

-- The function of a name.
abbrev pub function_named : List Definition → List ℕ → Option Definition
function_named [] name = None
function_named (f ∷ fs) name = if bytes_eq name f.name then Some f else function_named fs name

-- a unary operator on a value ([expr.unary.op])
abbrev pub unary_meaning : UnaryOperator → ℤ → Option ℤ
unary_meaning unary.Plus x = Some x
unary_meaning unary.Minus x = negation x
unary_meaning unary.Complement x = complement x
unary_meaning other x = None

-- a binary operator on two values ([expr.mul], [expr.add], [expr.bit.and], [expr.xor], [expr.or])
abbrev pub binary_meaning : BinaryOperator → ℤ → ℤ → Option ℤ
binary_meaning binary.Multiply x y = product x y
binary_meaning binary.Divide x y = quotient x y
binary_meaning binary.Remainder x y = remainder x y
binary_meaning binary.Add x y = sum x y
binary_meaning binary.Subtract x y = difference x y
binary_meaning binary.BitAnd x y = bits_and x y
binary_meaning binary.BitXor x y = bits_xor x y
binary_meaning binary.BitOr x y = bits_or x y
binary_meaning other x y = None

-- a call of a name without arguments ([expr.call])
abbrev pub call_of : (List ℕ → ℕ → Outcome) → Option Mention → ℕ → Outcome
call_of calls None n = Undefined
call_of calls (Some c) n = calls c.name n

-- An expression with n steps, where this is what a call of each name does with a number of steps: operands from left to
-- right. A form that is not built has no meaning here.
abbrev pub value_meaning : (List ℕ → ℕ → Outcome) → ExprTree → ℕ → Outcome
value_meaning calls (IntTree m Int value) n = Returned (pos value) n
value_meaning calls (CallTree m callee arguments) n = call_of calls (mention_of callee arguments) n
value_meaning calls (GroupTree m inner) n = value_meaning calls inner n
value_meaning calls (UnaryTree m operator operand) n = and_then (value_meaning calls operand n) (λ x left. given (unary_meaning operator x) left)
value_meaning calls (BinaryTree m operator first second) n =
    and_then (value_meaning calls first n) (λ x left. and_then (value_meaning calls second left) (λ y left'. given (binary_meaning operator x y) left'))
value_meaning calls other n = Undefined

abbrev pub body_meaning : (List ℕ → ℕ → Outcome) → Option Definition → ℕ → Outcome
body_meaning calls None n = Undefined
body_meaning calls (Some f) n = value_meaning calls f.value n

-- Calls of which at most so many are open at once.
unfoldable pub call_meaning : ℕ → List Definition → List ℕ → ℕ → Outcome
call_meaning zero u name n = Running
call_meaning (suc depth) u name n = called (body_meaning (call_meaning depth u) (function_named u name)) n

-- The function of a name with n steps for its body. Each call that is open has taken a step, so more than n are never
-- open.
unfoldable pub meaning : ℕ → List Definition → List ℕ → Outcome
meaning n u name = body_meaning (call_meaning n u) (function_named u name) n

-- For every number of steps each function of the plain unit does what the function of the source does.
abbrev pub Means : List Definition → PlainTree → Type 0
Means u plain = (n k : ℕ) (f : Definition) → slice_get u k ≡ Some f → run n plain.functions k ≡ meaning n u f.name

-- The forms of a unit are built, and the plain unit does what the functions do that it defines.
abbrev pub MeansUnit : UnitTree → PlainTree → Type 0
MeansUnit u plain = (fs : List Definition) × (forms_unit u ≡ Ok fs) × Means fs plain
