-- What the operators of a constant expression give for values: operands are promoted, or converted to their common type
-- ([expr.arith.conv]), and the machine's operators do the rest. None stands where an operation has no meaning.
use Rattle.std.specs.Prelude.{Bool, true, false, Option, Some, None, if◌then◌else◌}
use Rattle.std.specs.Option.{option_and_then}
use Rattle.cx_base.specs.declared.value.Scalar.{Scalar}
use Rattle.cx_base.specs.declared.value.Scalar.TheVariants as scalars
use Rattle.cx_machine.specs.Scalars.{promoted, converted}
use Rattle.cx_machine.specs.Values.{Val, Number, unary_value, binary_value, compared_value, converted_value}
use Rattle.cx_machine.specs.Values.{Struct as fields}
use Rattle.cx_machine.specs.declared.operators.UnaryOperator.TheVariants as machine_unary
use Rattle.cx_machine.specs.declared.operators.BinaryOperator.TheVariants as machine
use Rattle.cx_machine.specs.declared.operators.Comparison.TheVariants as compared
use Rattle.cx_term.specs.Term.{Term}
use Rattle.cx_term.specs.declared.word.Word.{Word}
use Rattle.cx_term.specs.declared.word.Word.TheVariants as word
use Rattle.cx_questions.specs.Scalars.{common}
use Rattle.cx_questions.specs.TermTests.{scalar_of}

-- one promoted operand
abbrev pub promoted_value : Val → Option Val
promoted_value (Number s n) = converted_value (promoted s) (Number s n)
promoted_value (fields vs) = None

abbrev pub of_one : Word → Val → Option Val
of_one word.Plus v = promoted_value v
of_one word.Minus v = option_and_then (unary_value machine_unary.Minus) (promoted_value v)
of_one word.Complement v = option_and_then (unary_value machine_unary.Complement) (promoted_value v)
of_one word.Not v = option_and_then (unary_value machine_unary.Not) (converted_value scalars.Bool v)
of_one w v = None

-- two operands in the types that the operator wants
abbrev pub of_converted : Word → Val → Val → Option Val
of_converted word.Times v w = binary_value machine.Multiply v w
of_converted word.Divide v w = binary_value machine.Divide v w
of_converted word.Remainder v w = binary_value machine.Remainder v w
of_converted word.Plus v w = binary_value machine.Add v w
of_converted word.Minus v w = binary_value machine.Subtract v w
of_converted word.ShiftLeft v w = binary_value machine.ShiftLeft v w
of_converted word.ShiftRight v w = binary_value machine.ShiftRight v w
of_converted word.BitAnd v w = binary_value machine.BitAnd v w
of_converted word.BitXor v w = binary_value machine.BitXor v w
of_converted word.BitOr v w = binary_value machine.BitOr v w
of_converted word.Less v w = compared_value compared.Less v w
of_converted word.LessEqual v w = compared_value compared.LessEqual v w
of_converted word.Greater v w = compared_value compared.Greater v w
of_converted word.GreaterEqual v w = compared_value compared.GreaterEqual v w
of_converted word.Equal v w = compared_value compared.Equal v w
of_converted word.NotEqual v w = compared_value compared.NotEqual v w
of_converted operator v w = None

-- a shift promotes each operand by itself, all others convert both to one type
abbrev pub is_shift : Word → Bool
is_shift word.ShiftLeft = true
is_shift word.ShiftRight = true
is_shift w = false

abbrev pub operand_in : Word → Scalar → Scalar → Scalar
operand_in w s t = if is_shift w then promoted s else common s t

abbrev pub of_two : Word → Val → Val → Option Val
of_two w (Number s x) (Number t y) = of_converted w (Number (operand_in w s t) (converted (operand_in w s t) x)) (Number (operand_in w t s) (converted (operand_in w t s) y))
of_two w (Number s x) (fields vs) = None
of_two w (fields vs) v = None

-- a value in the type that an expression or an object has: a scalar is converted to it
abbrev pub value_in : Term → Val → Option Val
value_in t (Number s n) = option_and_then (λ to. converted_value to (Number s n)) (scalar_of t)
value_in t (fields vs) = Some (fields vs)
