-- What lies in the range of a type.
use Rattle.std.proofs.Common.{◌≡◌, ℕ, zero, suc, ◌-◌, ◌%◌, ◌<◌, ◌≤◌, ◌^◌, Bool, true, false, ℤ, pos, negsuc, ◌-ℤ◌, ◌*ℤ◌, Option, Some, None, IsTrue, refl, sym, ap, ◌∙◌, subst, arith}
use Rattle.std.specs.Prelude.{int_le, int_div, int_rem, if◌then◌else◌, bit_and, bit_or, bit_xor, unsigned_abs, option_map}
use Rattle.std.specs.Ordering.{int_eq}
use Rattle.std.specs.Int.{int_rem_euclid, int_shr}
use Rattle.std.proofs.lemmas.Int.{ints, quot-rem}
use Rattle.std.proofs.Math.IntN.{+ℤ_comm, +ℤ-neg_ℤ_cancel}
use Rattle.std.specs.Prelude.{neg_ℤ, nat_abs, ◌⊎◌, ◌/◌}
use Rattle.std.proofs.Common.{inl, inr}
use Rattle.cx_base.specs.declared.value.Scalar.{Scalar}
use Rattle.cx_base.specs.declared.value.Scalar.TheVariants as scalar
use Rattle.cx_machine.specs.Scalars.{is_signed, is_value, wrapped, converted}
use Rattle.cx_machine.specs.declared.operators.UnaryOperator.{UnaryOperator}
use Rattle.cx_machine.specs.declared.operators.UnaryOperator.TheVariants as unary
use Rattle.cx_machine.specs.declared.operators.BinaryOperator.{BinaryOperator}
use Rattle.cx_machine.specs.declared.operators.BinaryOperator.TheVariants as binary
use Rattle.cx_machine.specs.Arithmetic.{exactly, settled, quotient, remainder, is_count, shifted_left, shifted_right, bitwise, truth, unary_result, unary_type, binary_result}

below : (n : ℕ) (z : ℤ) → 0 < n → (r : ℕ) × (int_rem_euclid z (pos n) ≡ pos r) × (r < n)
below n (pos a) some = (a % n, refl, omega (arith, some))
below n (negsuc a) some = (n - 1 - a % n, refl, omega (arith, some))

bool_in : (r : ℕ) → r < 2 ^ 1 → IsTrue (is_value scalar.Bool (if int_le (pos r) (pos 1) then pos r else pos r -ℤ pos (2 ^ 1)))
bool_in r small = grind (arith, ints)

int_in : (r : ℕ) → r < 2 ^ 32 → IsTrue (is_value scalar.Int (if int_le (pos r) (pos (2 ^ 31 - 1)) then pos r else pos r -ℤ pos (2 ^ 32)))
int_in r small = grind (arith, ints)

unsigned_in : (r : ℕ) → r < 2 ^ 32 → IsTrue (is_value scalar.Unsigned (if int_le (pos r) (pos (2 ^ 32 - 1)) then pos r else pos r -ℤ pos (2 ^ 32)))
unsigned_in r small = grind (arith, ints)

long_in : (r : ℕ) → r < 2 ^ 64 → IsTrue (is_value scalar.LongLong (if int_le (pos r) (pos (2 ^ 63 - 1)) then pos r else pos r -ℤ pos (2 ^ 64)))
long_in r small = grind (arith, ints)

ulong_in : (r : ℕ) → r < 2 ^ 64 → IsTrue (is_value scalar.ULongLong (if int_le (pos r) (pos (2 ^ 64 - 1)) then pos r else pos r -ℤ pos (2 ^ 64)))
ulong_in r small = grind (arith, ints)

pub wrapped_in : (t : Scalar) (z : ℤ) → IsTrue (is_value t (wrapped t z))
unfolding wrapped
wrapped_in scalar.Bool z = let r = below (2 ^ 1) z (omega arith) in rw r.1 (bool_in r.0 r.2)
wrapped_in scalar.Int z = let r = below (2 ^ 32) z (omega arith) in rw r.1 (int_in r.0 r.2)
wrapped_in scalar.Unsigned z = let r = below (2 ^ 32) z (omega arith) in rw r.1 (unsigned_in r.0 r.2)
wrapped_in scalar.LongLong z = let r = below (2 ^ 64) z (omega arith) in rw r.1 (long_in r.0 r.2)
wrapped_in scalar.ULongLong z = let r = below (2 ^ 64) z (omega arith) in rw r.1 (ulong_in r.0 r.2)

truth_in : (b : Bool) → IsTrue (is_value scalar.Bool (truth b))
truth_in true = refl
truth_in false = refl

bool_of : (b : Bool) → IsTrue (is_value scalar.Bool (if b then pos 0 else pos 1))
bool_of true = refl
bool_of false = refl

pub conversion : (t : Scalar) (z : ℤ) → IsTrue (is_value t (converted t z))
unfolding converted
conversion scalar.Bool z = bool_of (int_eq z (pos 0))
conversion scalar.Int z = wrapped_in scalar.Int z
conversion scalar.Unsigned z = wrapped_in scalar.Unsigned z
conversion scalar.LongLong z = wrapped_in scalar.LongLong z
conversion scalar.ULongLong z = wrapped_in scalar.ULongLong z

some_is : (x y : ℤ) → Some x ≡ Some y → x ≡ y
some_is x y e = cc

-- what a test lets through
let_through : (b : Bool) (o : Option ℤ) (z : ℤ) → (if b then o else None) ≡ Some z → (b ≡ true) × (o ≡ Some z)
let_through true o z e = (refl, e)
let_through false o z e = absurd cc

held_back : (b : Bool) (o : Option ℤ) (z : ℤ) → (if b then None else o) ≡ Some z → (b ≡ false) × (o ≡ Some z)
held_back true o z e = absurd cc
held_back false o z e = (refl, e)

pub exactly_in : (t : Scalar) (x z : ℤ) → exactly t x ≡ Some z → IsTrue (is_value t z) × (x ≡ z)
unfolding exactly
exactly_in t x z e =
    let h = let_through (is_value t x) (Some x) z e in
    let same : x ≡ z = some_is x z h.1 in
    (subst (λ y. IsTrue (is_value t y)) same h.0, same)

wrapped_some : (t : Scalar) (x z : ℤ) → Some (wrapped t x) ≡ Some z → IsTrue (is_value t z)
wrapped_some t x z e = subst (λ y. IsTrue (is_value t y)) (some_is (wrapped t x) z e) (wrapped_in t x)

truth_some : (b : Bool) (z : ℤ) → Some (truth b) ≡ Some z → IsTrue (is_value scalar.Bool z)
truth_some b z e = subst (λ y. IsTrue (is_value scalar.Bool y)) (some_is (truth b) z e) (truth_in b)

settled_in : (t : Scalar) (x z : ℤ) → settled t x ≡ Some z → IsTrue (is_value t z)
unfolding settled
settled_in t x z e = by (is_signed t) e
  where
    by : (b : Bool) → (if b then exactly t x else Some (wrapped t x)) ≡ Some z → IsTrue (is_value t z)
    by true h = (exactly_in t x z h).0
    by false h = wrapped_some t x z h

quotient_in : (t : Scalar) (x y z : ℤ) → quotient t x y ≡ Some z → IsTrue (is_value t z) × (int_div x y ≡ z)
unfolding quotient
quotient_in t x y z e = exactly_in t (int_div x y) z (held_back (int_eq y (pos 0)) (exactly t (int_div x y)) z e).1

-- between 0 and a number
abbrev Nearer : ℤ → ℤ → Type 0
Nearer (pos a) z = (b : ℕ) × (b ≤ a) × (z ≡ pos b)
Nearer (negsuc a) z = (z ≡ pos 0) ⊎ ((b : ℕ) × (b ≤ a) × (z ≡ negsuc b))

fewer : (t : Scalar) (a b : ℕ) → b ≤ a → IsTrue (is_value t (pos a)) → IsTrue (is_value t (pos b))
fewer scalar.Bool a b le inside = grind (arith, ints)
fewer scalar.Int a b le inside = grind (arith, ints)
fewer scalar.Unsigned a b le inside = grind (arith, ints)
fewer scalar.LongLong a b le inside = grind (arith, ints)
fewer scalar.ULongLong a b le inside = grind (arith, ints)

fewer_below : (t : Scalar) (a b : ℕ) → b ≤ a → IsTrue (is_value t (negsuc a)) → IsTrue (is_value t (negsuc b))
fewer_below scalar.Bool a b le inside = absurd cc
fewer_below scalar.Int a b le inside = grind (arith, ints)
fewer_below scalar.Unsigned a b le inside = absurd cc
fewer_below scalar.LongLong a b le inside = grind (arith, ints)
fewer_below scalar.ULongLong a b le inside = absurd cc

zero_in : (t : Scalar) → IsTrue (is_value t (pos 0))
zero_in scalar.Bool = refl
zero_in scalar.Int = refl
zero_in scalar.Unsigned = refl
zero_in scalar.LongLong = refl
zero_in scalar.ULongLong = refl

nearer_in : (t : Scalar) (x z : ℤ) → IsTrue (is_value t x) → Nearer x z → IsTrue (is_value t z)
nearer_in t (pos a) z inside near = subst (λ y. IsTrue (is_value t y)) (sym near.2) (fewer t a near.0 near.1 inside)
nearer_in t (negsuc a) z inside (inl e) = subst (λ y. IsTrue (is_value t y)) (sym e) (zero_in t)
nearer_in t (negsuc a) z inside (inr near) = subst (λ y. IsTrue (is_value t y)) (sym near.2) (fewer_below t a near.0 near.1 inside)

rest_near : (x y : ℤ) → Nearer x (int_rem x y)
rest_near (pos a) y = (a % nat_abs y, omega arith, refl)
rest_near (negsuc a) y = by (suc a % nat_abs y) (omega arith)
  where
    by : (r : ℕ) → r ≤ suc a → (neg_ℤ (pos r) ≡ pos 0) ⊎ ((b : ℕ) × (b ≤ a) × (neg_ℤ (pos r) ≡ negsuc b))
    by zero le = inl refl
    by (suc r) le = inr (r, omega (arith, le), refl)

shift_near : (x : ℤ) (m : ℕ) → Nearer x (int_shr x m)
shift_near (pos a) m = (a / 2 ^ m, omega arith, refl)
shift_near (negsuc a) m = inr (a / 2 ^ m, omega arith, refl)

left_over : (x y : ℤ) → x -ℤ int_div x y *ℤ y ≡ int_rem x y
left_over x y =
    let q = int_div x y *ℤ y in
    ap (λ v. v -ℤ q) (sym (quot-rem x y)) ∙ ap (λ v. v -ℤ q) (+ℤ_comm q (int_rem x y)) ∙ +ℤ-neg_ℤ_cancel (int_rem x y) q

remainder_in : (t : Scalar) (x y z : ℤ) → IsTrue (is_value t x) → remainder t x y ≡ Some z → IsTrue (is_value t z)
unfolding remainder
remainder_in t x y z inside e = by (quotient t x y) refl e
  where
    by : (o : Option ℤ) → quotient t x y ≡ o → option_map (λ q. x -ℤ q *ℤ y) o ≡ Some z → IsTrue (is_value t z)
    by None is h = absurd cc
    by (Some q) is h =
        let same : int_div x y ≡ q = (quotient_in t x y q is).1 in
        let rest : int_rem x y ≡ z = sym (left_over x y) ∙ ap (λ p. x -ℤ p *ℤ y) same ∙ some_is (x -ℤ q *ℤ y) z h in
        nearer_in t x z inside (subst (Nearer x) rest (rest_near x y))

left_in : (t : Scalar) (x y z : ℤ) → shifted_left t x y ≡ Some z → IsTrue (is_value t z)
unfolding shifted_left
left_in t x y z e = wrapped_some t _ z (let_through (is_count t y) (Some (wrapped t _)) z e).1

right_in : (t : Scalar) (x y z : ℤ) → IsTrue (is_value t x) → shifted_right t x y ≡ Some z → IsTrue (is_value t z)
unfolding shifted_right
right_in t x y z inside e =
    let shifted : int_shr x (unsigned_abs y) ≡ z = some_is (int_shr x (unsigned_abs y)) z (let_through (is_count t y) (Some (int_shr x (unsigned_abs y))) z e).1 in
    nearer_in t x z inside (subst (Nearer x) shifted (shift_near x (unsigned_abs y)))

bitwise_in : (operation : ℕ → ℕ → ℕ) (t : Scalar) (x y z : ℤ) → Some (bitwise operation t x y) ≡ Some z → IsTrue (is_value t z)
unfolding bitwise
bitwise_in operation t x y z e = wrapped_some t _ z e

pub of_unary : (operator : UnaryOperator) (t : Scalar) (x z : ℤ) → IsTrue (is_value t x) → unary_result operator t x ≡ Some z → IsTrue (is_value (unary_type operator t) z)
unfolding unary_result
of_unary unary.Minus t x z inside e = settled_in t _ z e
of_unary unary.Complement t x z inside e = wrapped_some t _ z e
of_unary unary.Not t x z inside e = truth_some _ z e

pub of_binary : (operator : BinaryOperator) (t : Scalar) (x y z : ℤ) → IsTrue (is_value t x) → binary_result operator t x y ≡ Some z → IsTrue (is_value t z)
unfolding binary_result
of_binary binary.Multiply t x y z inside e = settled_in t _ z e
of_binary binary.Divide t x y z inside e = (quotient_in t x y z e).0
of_binary binary.Remainder t x y z inside e = remainder_in t x y z inside e
of_binary binary.Add t x y z inside e = settled_in t _ z e
of_binary binary.Subtract t x y z inside e = settled_in t _ z e
of_binary binary.ShiftLeft t x y z inside e = left_in t x y z e
of_binary binary.ShiftRight t x y z inside e = right_in t x y z inside e
of_binary binary.BitAnd t x y z inside e = bitwise_in bit_and t x y z e
of_binary binary.BitXor t x y z inside e = bitwise_in bit_xor t x y z e
of_binary binary.BitOr t x y z inside e = bitwise_in bit_or t x y z e
