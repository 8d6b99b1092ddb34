-- The arithmetic of int: at its edges, computed, and that it gives ints.
use Rattle.std.proofs.Common.{◌≡◌, ℕ, ◌<◌, ◌≤◌, ◌^◌, Bool, true, false, ◌&&◌, cond, leb, ℤ, pos, negsuc, ◌+ℤ◌, ◌-ℤ◌, ◌*ℤ◌, int_div, int_rem, FitsSigned, Option, Some, None, refl, sym, ap, ◌∙◌, subst, arith}
use Rattle.std.specs.Int.{w32}
use Rattle.std.specs.Option.{option_map}
use Rattle.std.specs.Ordering.{int_eq}
use Rattle.std.proofs.lemmas.Int.{quot-rem}
use Rattle.std.proofs.lemmas.Bool.{leb-true}
use Rattle.std.proofs.Math.IntN.{+ℤ_comm, +ℤ-neg_ℤ_cancel}
use lib.Signed.{mag, mag_rem}
use borrow.Author.Gap.{read_sfits}
use Rattle.cx_plain.specs.declared.operators.UnaryOperator.{UnaryOperator}
use Rattle.cx_plain.specs.declared.operators.UnaryOperator.TheVariants as unary
use Rattle.cx_plain.specs.declared.operators.BinaryOperator.{BinaryOperator}
use Rattle.cx_plain.specs.declared.operators.BinaryOperator.TheVariants as binary
use Rattle.cx_plain.specs.PlainMeaning.{unary_result, binary_result}
use Rattle.cx_plain.specs.Arithmetic.{least, greatest, where_int, negation, complement, sum, difference, product, quotient, remainder, bits_and, bits_xor, bits_or}

pub overflow : (sum greatest (pos 1) ≡ None) × (sum greatest (pos 0) ≡ Some greatest) × (difference least (pos 1) ≡ None) × (difference (pos 0) greatest ≡ Some (negsuc 2147483646))
    × (product (pos 65536) (pos 32768) ≡ None) × (product (pos 65536) (negsuc 32767) ≡ Some least) × (negation least ≡ None) × (negation greatest ≡ Some (negsuc 2147483646))
unfolding where_int sum difference product negation
overflow = (refl, refl, refl, refl, refl, refl, refl, refl)

pub division : (quotient (negsuc 6) (pos 2) ≡ Some (negsuc 2)) × (remainder (negsuc 6) (pos 2) ≡ Some (negsuc 0)) × (quotient (pos 7) (negsuc 1) ≡ Some (negsuc 2)) × (remainder (pos 7) (negsuc 1) ≡ Some (pos 1))
unfolding where_int quotient remainder
division = (refl, refl, refl, refl)

pub no_quotient : (quotient (pos 1) (pos 0) ≡ None) × (remainder (pos 1) (pos 0) ≡ None) × (quotient least (negsuc 0) ≡ None) × (remainder least (negsuc 0) ≡ None)
unfolding where_int quotient remainder
no_quotient = (refl, refl, refl, refl)

pub bits : (complement (pos 0) ≡ Some (negsuc 0)) × (complement least ≡ Some greatest) × (bits_and (negsuc 0) (pos 12) ≡ Some (pos 12)) × (bits_xor (negsuc 0) (pos 5) ≡ Some (negsuc 5))
    × (bits_or least (pos 1) ≡ Some (negsuc 2147483646))
unfolding complement bits_and bits_xor bits_or
bits = (refl, refl, refl, refl, refl)

-- ---- ints give ints

given_where : (b : Bool) (z y : ℤ) → cond b (Some z) None ≡ Some y → (b ≡ true) × (z ≡ y)
given_where true z y e =
    let is : z ≡ y = cc in
    (refl, is)
given_where false z y e = absurd cc

and_true : (b : Bool) → (b && true) ≡ true → b ≡ true
and_true true e = refl
and_true false e = e

where_fits : (z y : ℤ) → where_int z ≡ Some y → FitsSigned w32 y
unfolding where_int
where_fits (pos n) y e =
    let h = given_where (leb n 2147483647) (pos n) y e in
    subst (FitsSigned w32) h.1 (record { sfits = omega (arith, leb-true n 2147483647 h.0) })
where_fits (negsuc n) y e =
    let h = given_where (leb n 2147483647 && true) (negsuc n) y e in
    subst (FitsSigned w32) h.1 (record { sfits = omega (arith, leb-true n 2147483647 (and_true (leb n 2147483647) h.0)) })

quotient_is : (x y q : ℤ) → quotient x y ≡ Some q → (where_int (int_div x y) ≡ Some q)
unfolding quotient
quotient_is x y q e = by (int_eq y (pos 0)) e
  where
    by : (b : Bool) → cond b None (where_int (int_div x y)) ≡ Some q → where_int (int_div x y) ≡ Some q
    by true h = absurd cc
    by false h = h

where_is : (z y : ℤ) → where_int z ≡ Some y → z ≡ y
unfolding where_int
where_is z y e = (given_where _ z y e).1

left_over : (x y : ℤ) → x -ℤ int_div x y *ℤ y ≡ int_rem x y
left_over x y =
    let q = int_div x y *ℤ y in
    ap (λ v. v -ℤ q) (sym (quot-rem x y)) ∙ ap (λ v. v -ℤ q) (+ℤ_comm q (int_rem x y)) ∙ +ℤ-neg_ℤ_cancel (int_rem x y) q

remainder_fits : (x y z : ℤ) → FitsSigned w32 x → remainder x y ≡ Some z → FitsSigned w32 z
unfolding remainder
remainder_fits x y z fits e = by (quotient x y) refl e
  where
    by : (o : Option ℤ) → quotient x y ≡ o → option_map (λ q. x -ℤ q *ℤ y) o ≡ Some z → FitsSigned w32 z
    by None is h = absurd cc
    by (Some q) is h =
        let same : int_div x y ≡ q = where_is (int_div x y) q (quotient_is x y q is) in
        let z_is : x -ℤ q *ℤ y ≡ z = cc in
        let rest : int_rem x y ≡ z = sym (left_over x y) ∙ ap (λ p. x -ℤ p *ℤ y) same ∙ z_is in
        subst (FitsSigned w32) rest (record { sfits = omega (arith, mag_rem x y, fits.sfits) })

some_is : (x y : ℤ) → Some x ≡ Some y → x ≡ y
some_is x y e = cc

pub unary_int : (operator : UnaryOperator) (x z : ℤ) → FitsSigned w32 x → unary_result operator x ≡ Some z → FitsSigned w32 z
unfolding negation complement
unary_int unary.Minus x z fits e = where_fits (pos 0 -ℤ x) z e
unary_int unary.Complement x z fits e = subst (FitsSigned w32) (some_is _ z e) (read_sfits w32 _)

pub binary_int : (operator : BinaryOperator) (x y z : ℤ) → FitsSigned w32 x → FitsSigned w32 y → binary_result operator x y ≡ Some z → FitsSigned w32 z
unfolding sum difference product bits_and bits_xor bits_or
binary_int binary.Multiply x y z fits fits' e = where_fits (x *ℤ y) z e
binary_int binary.Divide x y z fits fits' e = where_fits (int_div x y) z (quotient_is x y z e)
binary_int binary.Remainder x y z fits fits' e = remainder_fits x y z fits e
binary_int binary.Add x y z fits fits' e = where_fits (x +ℤ y) z e
binary_int binary.Subtract x y z fits fits' e = where_fits (x -ℤ y) z e
binary_int binary.BitAnd x y z fits fits' e = subst (FitsSigned w32) (some_is _ z e) (read_sfits w32 _)
binary_int binary.BitXor x y z fits fits' e = subst (FitsSigned w32) (some_is _ z e) (read_sfits w32 _)
binary_int binary.BitOr x y z fits fits' e = subst (FitsSigned w32) (some_is _ z e) (read_sfits w32 _)
