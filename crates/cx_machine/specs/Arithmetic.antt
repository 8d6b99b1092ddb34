-- What operators give for values of a scalar type. Nothing is given where the behaviour is undefined ([expr.pre]).
use Rattle.std.specs.Prelude.{ℕ, ℤ, pos, ◌+ℤ◌, ◌-ℤ◌, ◌*ℤ◌, ◌^◌, ◌&&◌, Bool, true, false, not, Option, Some, None, int_le, int_lt, int_div, unsigned_abs, bit_and, bit_or, bit_xor, option_map, if◌then◌else◌}
use Rattle.std.specs.Ordering.{int_eq}
use Rattle.std.specs.Int.{int_shr}
use Rattle.cx_base.specs.declared.value.Scalar.{Scalar}
use Rattle.cx_base.specs.declared.value.Scalar.TheVariants as scalar
use Rattle.cx_machine.specs.declared.operators.UnaryOperator.{UnaryOperator}
use Rattle.cx_machine.specs.declared.operators.UnaryOperator.TheVariants as unary
use Rattle.cx_machine.specs.declared.operators.BinaryOperator.{BinaryOperator}
use Rattle.cx_machine.specs.declared.operators.BinaryOperator.TheVariants as binary
use Rattle.cx_machine.specs.declared.operators.Comparison.{Comparison}
use Rattle.cx_machine.specs.declared.operators.Comparison.TheVariants as comparison
use Rattle.cx_machine.specs.declared.operators.Update.{Update}
use Rattle.cx_machine.specs.declared.operators.Update.TheVariants as update
use Rattle.cx_machine.specs.Scalars.{width, is_signed, is_value, residue, wrapped}

-- A number as a value of a type, where it is one.
unfoldable pub exactly : Scalar → ℤ → Option ℤ
exactly t z = if is_value t z then Some z else None

-- What arithmetic gives in a type: in a signed one the number itself, and signed overflow is undefined; in an unsigned
-- one the number modulo 2 to the width ([basic.fundamental]).
unfoldable pub settled : Scalar → ℤ → Option ℤ
settled t z = if is_signed t then exactly t z else Some (wrapped t z)

-- `x / y`: the quotient without its fraction, so towards zero ([expr.mul])
unfoldable pub quotient : Scalar → ℤ → ℤ → Option ℤ
quotient t x y = if int_eq y (pos 0) then None else exactly t (int_div x y)

-- `x % y`: what is left of x, where the quotient has a meaning: `(x / y) * y + x % y` is x ([expr.mul])
unfoldable pub remainder : Scalar → ℤ → ℤ → Option ℤ
remainder t x y = option_map (λ q. x -ℤ q *ℤ y) (quotient t x y)

-- whether a number is the count of a shift: from 0 to the width minus 1 ([expr.shift])
abbrev pub is_count : Scalar → ℤ → Bool
is_count t y = int_le (pos 0) y && int_lt y (pos (width t))

-- `x << y`: x times 2 to the count, modulo 2 to the width; `x >> y`: x divided by it, rounded down ([expr.shift])
unfoldable pub shifted_left : Scalar → ℤ → ℤ → Option ℤ
shifted_left t x y = if is_count t y then Some (wrapped t (x *ℤ pos (2 ^ unsigned_abs y))) else None

unfoldable pub shifted_right : Scalar → ℤ → ℤ → Option ℤ
shifted_right t x y = if is_count t y then Some (int_shr x (unsigned_abs y)) else None

-- the bits of a value, as a natural number, and `x & y`, `x ^ y` and `x | y`, bit by bit ([expr.bit.and], [expr.xor],
-- [expr.or])
abbrev pub bits_of : Scalar → ℤ → ℕ
bits_of t z = unsigned_abs (residue (width t) z)

unfoldable pub bitwise : (ℕ → ℕ → ℕ) → Scalar → ℤ → ℤ → ℤ
bitwise operation t x y = wrapped t (pos (operation (bits_of t x) (bits_of t y)))

abbrev pub truth : Bool → ℤ
truth false = pos 0
truth true = pos 1

-- `-x`, `~x` and `!x` ([expr.unary.op]); `~x` is -x - 1 modulo 2 to the width
unfoldable pub unary_result : UnaryOperator → Scalar → ℤ → Option ℤ
unary_result unary.Minus t x = settled t (pos 0 -ℤ x)
unary_result unary.Complement t x = Some (wrapped t (pos 0 -ℤ x -ℤ pos 1))
unary_result unary.Not t x = Some (truth (int_eq x (pos 0)))

-- An operator on two values, the first of which has the type t, as what is given has.
unfoldable pub binary_result : BinaryOperator → Scalar → ℤ → ℤ → Option ℤ
binary_result binary.Multiply t x y = settled t (x *ℤ y)
binary_result binary.Divide t x y = quotient t x y
binary_result binary.Remainder t x y = remainder t x y
binary_result binary.Add t x y = settled t (x +ℤ y)
binary_result binary.Subtract t x y = settled t (x -ℤ y)
binary_result binary.ShiftLeft t x y = shifted_left t x y
binary_result binary.ShiftRight t x y = shifted_right t x y
binary_result binary.BitAnd t x y = Some (bitwise bit_and t x y)
binary_result binary.BitXor t x y = Some (bitwise bit_xor t x y)
binary_result binary.BitOr t x y = Some (bitwise bit_or t x y)

-- whether a comparison holds ([expr.rel], [expr.eq])
abbrev pub compared : Comparison → ℤ → ℤ → Bool
compared comparison.Less x y = int_lt x y
compared comparison.LessEqual x y = int_le x y
compared comparison.Greater x y = int_lt y x
compared comparison.GreaterEqual x y = int_le y x
compared comparison.Equal x y = int_eq x y
compared comparison.NotEqual x y = not (int_eq x y)

-- the type of what an operator gives for a value of a type
abbrev pub unary_type : UnaryOperator → Scalar → Scalar
unary_type unary.Minus t = t
unary_type unary.Complement t = t
unary_type unary.Not t = scalar.Bool

-- `++` and `--`: one more or one less ([expr.pre.incr])
abbrev pub updated : Update → Scalar → ℤ → Option ℤ
updated update.Increment t x = settled t (x +ℤ pos 1)
updated update.Decrement t x = settled t (x -ℤ pos 1)
