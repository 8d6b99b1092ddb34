-- The arithmetic of int: whole numbers from -2147483648 to 2147483647, in 32 bits of two's complement
-- ([basic.fundamental]). An operation gives nothing where the standard gives it no meaning.
use Rattle.std.specs.Prelude.{ℤ, pos, negsuc, ◌-ℤ◌, ◌+ℤ◌, ◌*ℤ◌, int_le, int_div, ◌&&◌, Option, Some, None, if◌then◌else◌}
use Rattle.std.specs.Int.{w32, int_bit_and, int_bit_xor, int_bit_or, int_bit_not}
use Rattle.std.specs.Option.{option_map}
use Rattle.std.specs.Ordering.{int_eq}

abbrev pub least : ℤ
least = negsuc 2147483647

abbrev pub greatest : ℤ
greatest = pos 2147483647

-- A number, where it is an int: signed overflow has no meaning ([expr.pre]).
unfoldable pub where_int : ℤ → Option ℤ
where_int z = if int_le least z && int_le z greatest then Some z else None

-- `-x` ([expr.unary.op])
unfoldable pub negation : ℤ → Option ℤ
negation x = where_int (pos 0 -ℤ x)

-- `x + y` and `x - y` ([expr.add])
unfoldable pub sum : ℤ → ℤ → Option ℤ
sum x y = where_int (x +ℤ y)

unfoldable pub difference : ℤ → ℤ → Option ℤ
difference x y = where_int (x -ℤ y)

-- `x * y` ([expr.mul])
unfoldable pub product : ℤ → ℤ → Option ℤ
product x y = where_int (x *ℤ y)

-- `x / y`: the quotient without its fraction, so towards zero ([expr.mul])
unfoldable pub quotient : ℤ → ℤ → Option ℤ
quotient x y = if int_eq y (pos 0) then None else where_int (int_div x y)

-- `x % y`: what is left of x, where the quotient has a meaning: `(x / y) * y + x % y` is x ([expr.mul])
unfoldable pub remainder : ℤ → ℤ → Option ℤ
remainder x y = option_map (λ q. x -ℤ q *ℤ y) (quotient x y)

-- `~x`, `x & y`, `x ^ y` and `x | y`, bit by bit ([expr.unary.op], [expr.bit.and], [expr.xor], [expr.or])
unfoldable pub complement : ℤ → Option ℤ
complement x = Some (int_bit_not w32 x)

unfoldable pub bits_and : ℤ → ℤ → Option ℤ
bits_and x y = Some (int_bit_and w32 x y)

unfoldable pub bits_xor : ℤ → ℤ → Option ℤ
bits_xor x y = Some (int_bit_xor w32 x y)

unfoldable pub bits_or : ℤ → ℤ → Option ℤ
bits_or x y = Some (int_bit_or w32 x y)
