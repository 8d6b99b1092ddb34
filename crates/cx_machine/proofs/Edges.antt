-- Arithmetic at its edges, computed.
use Rattle.std.proofs.Common.{◌≡◌, ◌^◌, pos, negsuc, Some, None, refl}
use Rattle.cx_base.specs.declared.value.Scalar.TheVariants.{Bool, Int, Unsigned, LongLong, ULongLong}
use Rattle.cx_machine.specs.declared.operators.UnaryOperator.TheVariants.{Minus, Complement}
use Rattle.cx_machine.specs.declared.operators.BinaryOperator.TheVariants.{Add, Multiply, Divide, Remainder, ShiftLeft, ShiftRight, BitAnd, BitOr}
use Rattle.cx_machine.specs.Scalars.{least, greatest, wrapped, converted}
use Rattle.cx_machine.specs.Arithmetic.{exactly, settled, quotient, remainder, shifted_left, shifted_right, bitwise, unary_result, binary_result}

pub overflow : (binary_result Add Int (greatest Int) (pos 1) ≡ None) × (binary_result Add Unsigned (greatest Unsigned) (pos 1) ≡ Some (pos 0)) × (binary_result Multiply LongLong (pos (2 ^ 62)) (pos 2) ≡ None)
    × (binary_result Multiply ULongLong (pos (2 ^ 63)) (pos 2) ≡ Some (pos 0)) × (unary_result Minus Int (least Int) ≡ None) × (unary_result Minus Unsigned (pos 1) ≡ Some (greatest Unsigned))
    × (unary_result Complement Int (pos 0) ≡ Some (negsuc 0))
unfolding exactly settled wrapped unary_result binary_result
overflow = (refl, refl, refl, refl, refl, refl, refl)

pub division : (binary_result Divide Int (negsuc 6) (pos 2) ≡ Some (negsuc 2)) × (binary_result Remainder Int (negsuc 6) (pos 2) ≡ Some (negsuc 0)) × (binary_result Remainder Int (pos 7) (negsuc 1) ≡ Some (pos 1))
    × (binary_result Divide Int (pos 1) (pos 0) ≡ None) × (binary_result Divide Int (least Int) (negsuc 0) ≡ None) × (binary_result Remainder LongLong (least LongLong) (negsuc 0) ≡ None)
unfolding exactly quotient remainder binary_result
division = (refl, refl, refl, refl, refl, refl)

pub shifts : (binary_result ShiftLeft Int (pos 1) (pos 31) ≡ Some (least Int)) × (binary_result ShiftLeft Int (pos 1) (pos 32) ≡ None) × (binary_result ShiftRight Int (negsuc 2) (pos 1) ≡ Some (negsuc 1))
    × (binary_result ShiftRight Int (pos 1) (negsuc 0) ≡ None) × (binary_result ShiftLeft LongLong (pos 3) (pos 63) ≡ Some (least LongLong))
unfolding wrapped shifted_left shifted_right binary_result
shifts = (refl, refl, refl, refl, refl)

pub bits : (binary_result BitAnd Int (negsuc 0) (pos 12) ≡ Some (pos 12)) × (binary_result BitOr Int (least Int) (pos 1) ≡ Some (negsuc 2147483646))
unfolding wrapped bitwise binary_result
bits = (refl, refl)

pub conversions : (converted Bool (pos 2) ≡ pos 1) × (converted Bool (pos 0) ≡ pos 0) × (converted Int (greatest Unsigned) ≡ negsuc 0) × (converted Unsigned (negsuc 0) ≡ greatest Unsigned)
    × (converted Int (pos (2 ^ 32)) ≡ pos 0) × (converted ULongLong (negsuc 0) ≡ greatest ULongLong) × (converted Unsigned (greatest LongLong) ≡ greatest Unsigned)
unfolding wrapped converted
conversions = (refl, refl, refl, refl, refl, refl, refl)
