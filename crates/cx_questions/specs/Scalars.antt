-- Two scalar types: whether they are one, their common type ([expr.arith.conv]), whether one holds the values of the other.
use Rattle.std.specs.Prelude.{int_le, ◌&&◌, Bool, true, false}
use Rattle.cx_base.specs.declared.value.Scalar.{Scalar}
use Rattle.cx_base.specs.declared.value.Scalar.TheVariants as scalar
use Rattle.cx_machine.specs.Scalars.{least, greatest, promoted}

-- whether two scalar types are one
abbrev pub same_scalar : Scalar → Scalar → Bool
same_scalar scalar.Bool scalar.Bool = true
same_scalar scalar.Int scalar.Int = true
same_scalar scalar.Unsigned scalar.Unsigned = true
same_scalar scalar.LongLong scalar.LongLong = true
same_scalar scalar.ULongLong scalar.ULongLong = true
same_scalar _ _ = false

-- the common type of two promoted types: of equal signedness the wider one, else the unsigned one where it is as wide
abbrev pub common_of_promoted : Scalar → Scalar → Scalar
common_of_promoted scalar.Int t = t
common_of_promoted s scalar.Int = s
common_of_promoted scalar.Unsigned t = t
common_of_promoted s scalar.Unsigned = s
common_of_promoted scalar.LongLong t = t
common_of_promoted s scalar.LongLong = s
common_of_promoted s t = s

-- the usual arithmetic conversions
abbrev pub common : Scalar → Scalar → Scalar
common s t = common_of_promoted (promoted s) (promoted t)

-- whether each value of one type is a value of another
abbrev pub holds_all_of : Scalar → Scalar → Bool
holds_all_of s t = int_le (least s) (least t) && int_le (greatest t) (greatest s)
