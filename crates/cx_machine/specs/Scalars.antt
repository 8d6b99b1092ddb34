-- The scalar types and their values ([basic.fundamental]).
use Rattle.std.specs.Prelude.{ℕ, ℤ, pos, ◌-◌, ◌-ℤ◌, ◌^◌, ◌&&◌, Bool, true, false, int_le, if◌then◌else◌}
use Rattle.std.specs.Ordering.{int_eq}
use Rattle.std.specs.Int.{int_rem_euclid}
use Rattle.cx_base.specs.declared.value.Scalar.{Scalar}
use Rattle.cx_base.specs.declared.value.Scalar.TheVariants as scalar

-- How many bits stand for a value: `int` and `unsigned` have 32, `long long` and `unsigned long long` 64.
abbrev pub width : Scalar → ℕ
width scalar.Bool = 1
width scalar.Int = 32
width scalar.Unsigned = 32
width scalar.LongLong = 64
width scalar.ULongLong = 64

abbrev pub is_signed : Scalar → Bool
is_signed scalar.Bool = false
is_signed scalar.Int = true
is_signed scalar.Unsigned = false
is_signed scalar.LongLong = true
is_signed scalar.ULongLong = false

-- the least and the greatest value of a type
abbrev pub least : Scalar → ℤ
least scalar.Bool = pos 0
least scalar.Int = pos 0 -ℤ pos (2 ^ 31)
least scalar.Unsigned = pos 0
least scalar.LongLong = pos 0 -ℤ pos (2 ^ 63)
least scalar.ULongLong = pos 0

abbrev pub greatest : Scalar → ℤ
greatest scalar.Bool = pos 1
greatest scalar.Int = pos (2 ^ 31 - 1)
greatest scalar.Unsigned = pos (2 ^ 32 - 1)
greatest scalar.LongLong = pos (2 ^ 63 - 1)
greatest scalar.ULongLong = pos (2 ^ 64 - 1)

-- whether a number is a value of a type; a bool is 0 or 1
abbrev pub is_value : Scalar → ℤ → Bool
is_value t z = int_le (least t) z && int_le z (greatest t)

-- Integral promotion ([conv.prom]): a bool becomes an int.
abbrev pub promoted : Scalar → Scalar
promoted scalar.Bool = scalar.Int
promoted scalar.Int = scalar.Int
promoted scalar.Unsigned = scalar.Unsigned
promoted scalar.LongLong = scalar.LongLong
promoted scalar.ULongLong = scalar.ULongLong

-- The bits of a number in a width, read as a natural number: what it is modulo 2 to the width.
abbrev pub residue : ℕ → ℤ → ℤ
residue w z = int_rem_euclid z (pos (2 ^ w))

-- The one value of an integer type that is a number modulo 2 to the width ([conv.integral]).
unfoldable pub wrapped : Scalar → ℤ → ℤ
wrapped t z = if int_le (residue (width t) z) (greatest t) then residue (width t) z else residue (width t) z -ℤ pos (2 ^ width t)

-- A conversion of a scalar value to a type: to bool it tells whether the value is not 0 ([conv.bool]).
unfoldable pub converted : Scalar → ℤ → ℤ
converted scalar.Bool z = if int_eq z (pos 0) then pos 0 else pos 1
converted scalar.Int z = wrapped scalar.Int z
converted scalar.Unsigned z = wrapped scalar.Unsigned z
converted scalar.LongLong z = wrapped scalar.LongLong z
converted scalar.ULongLong z = wrapped scalar.ULongLong z
