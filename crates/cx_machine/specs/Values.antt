-- Values, and what operators give for them.
use Rattle.std.specs.Prelude.{ℕ, zero, suc, ℤ, pos, Bool, true, false, not, List, [], ◌∷◌, Option, Some, None, option_map, option_and_then, if◌then◌else◌}
use Rattle.std.specs.Ordering.{int_eq}
use Rattle.cx_base.specs.declared.value.Scalar.{Scalar}
use Rattle.cx_machine.specs.declared.operators.UnaryOperator.{UnaryOperator}
use Rattle.cx_machine.specs.declared.operators.BinaryOperator.{BinaryOperator}
use Rattle.cx_machine.specs.declared.operators.BinaryOperator.TheVariants as binary
use Rattle.cx_machine.specs.declared.operators.Comparison.{Comparison}
use Rattle.cx_machine.specs.declared.operators.Update.{Update}
use Rattle.cx_base.specs.declared.value.Scalar.TheVariants as scalar
use Rattle.cx_machine.specs.Scalars.{promoted, converted}
use Rattle.cx_machine.specs.Arithmetic.{unary_result, unary_type, binary_result, compared, truth, updated}

-- A value of a scalar type, a bool being 0 or 1; or the values of a struct's fields in order.
mutual
  pub data Val : Type 0 where
    Number : Scalar → ℤ → Val
    Struct : Vals → Val

  pub data Vals : Type 0 where
    no_val : Vals
    and_val : Val → Vals → Vals

abbrev pub vals : List Val → Vals
vals [] = no_val
vals (v ∷ vs) = and_val v (vals vs)

-- the value of the field of a number, and the values with another one there
abbrev pub nth : Vals → ℕ → Option Val
nth no_val k = None
nth (and_val v vs) zero = Some v
nth (and_val v vs) (suc k) = nth vs k

abbrev pub with_nth : Vals → ℕ → Val → Vals
with_nth no_val k new = no_val
with_nth (and_val v vs) zero new = and_val new vs
with_nth (and_val v vs) (suc k) new = and_val v (with_nth vs k new)

abbrev pub field : ℕ → Val → Option Val
field k (Number t z) = None
field k (Struct vs) = nth vs k

abbrev pub with_field : ℕ → Val → Val → Val
with_field k (Number t z) new = Number t z
with_field k (Struct vs) new = Struct (with_nth vs k new)

-- the part of a value that a path of fields leads to, and the value with another part there
abbrev pub part_at : List ℕ → Val → Option Val
part_at [] v = Some v
part_at (k ∷ path) v = option_and_then (part_at path) (field k v)

abbrev pub with_part : List ℕ → Val → Val → Option Val
with_part [] new v = Some new
with_part (k ∷ path) new v = option_and_then (λ old. option_map (with_field k v) (with_part path new old)) (field k v)

-- ---- operators; a struct has none

abbrev pub unary_value : UnaryOperator → Val → Option Val
unary_value operator (Number t x) = option_map (Number (unary_type operator t)) (unary_result operator t x)
unary_value operator (Struct vs) = None

abbrev pub binary_value : BinaryOperator → Val → Val → Option Val
binary_value operator (Number t x) (Number u y) = option_map (Number t) (binary_result operator t x y)
binary_value operator (Number t x) (Struct ws) = None
binary_value operator (Struct vs) (Number u y) = None
binary_value operator (Struct vs) (Struct ws) = None

abbrev pub bool_val : Bool → Val
bool_val b = Number scalar.Bool (truth b)

abbrev pub compared_value : Comparison → Val → Val → Option Val
compared_value operator (Number t x) (Number u y) = Some (bool_val (compared operator x y))
compared_value operator (Number t x) (Struct ws) = None
compared_value operator (Struct vs) (Number u y) = None
compared_value operator (Struct vs) (Struct ws) = None

abbrev pub updated_value : Update → Val → Option Val
updated_value operator (Number t x) = option_map (Number t) (updated operator t x)
updated_value operator (Struct vs) = None

abbrev pub converted_value : Scalar → Val → Option Val
converted_value to (Number t x) = Some (Number to (converted to x))
converted_value to (Struct vs) = None

-- whether an operator is a shift
abbrev pub is_shift : BinaryOperator → Bool
is_shift binary.Multiply = false
is_shift binary.Divide = false
is_shift binary.Remainder = false
is_shift binary.Add = false
is_shift binary.Subtract = false
is_shift binary.ShiftLeft = true
is_shift binary.ShiftRight = true
is_shift binary.BitAnd = false
is_shift binary.BitXor = false
is_shift binary.BitOr = false

-- What `x op= y` puts where x stood ([expr.ass]): x is converted to the type of y, which is the common type, or for a
-- shift promoted; what the operator gives is converted back to the type of x.
abbrev pub operand_type : BinaryOperator → Scalar → Scalar → Scalar
operand_type operator t u = if is_shift operator then promoted t else u

abbrev pub compound_value : BinaryOperator → Val → Val → Option Val
compound_value operator (Number t x) (Number u y) =
    option_map (λ z. Number t (converted t z)) (binary_result operator (operand_type operator t u) (converted (operand_type operator t u) x) y)
compound_value operator (Number t x) (Struct ws) = None
compound_value operator (Struct vs) (Number u y) = None
compound_value operator (Struct vs) (Struct ws) = None

-- whether a value is true: not 0
abbrev pub is_true : Val → Option Bool
is_true (Number t x) = Some (not (int_eq x (pos 0)))
is_true (Struct vs) = None
