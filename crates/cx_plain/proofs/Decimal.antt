-- The decimal text of an int says it.
use Rattle.std.proofs.Common.{◌≡◌, ℕ, ◌+◌, ◌<◌, ◌^◌, refl, sym, ◌∙◌, arith}
use Rattle.std.specs.Prelude.{ℤ, pos, negsuc, decimal, FitsSigned}
use Rattle.std.specs.Int.{w32}
use Rattle.std.specs.Int.Signed.{mag}
use Rattle.std.proofs.lemmas.Fmt.{decimal_is_IsNumeral, decimal_nonempty, first_decimal, decimal_digit, signed_decimal_injective}
use Rattle.cx_plain.specs.Decimal.{SaysNumber, SaysInteger}
use Rattle.cx_plain.specs.PlainText.{constant_text}
use Rattle.cx_plain.proofs.Constant.{constant_text_is}

pub says_number : (n : ℕ) → n < 2 ^ 64 → SaysNumber n (decimal n)
says_number n small =
    let d = decimal_is_IsNumeral n small in
    record {
      digits = d.0.1;
      value = d.1;
      not_empty = decimal_nonempty n small;
      no_leading_zero = λ lt. first_decimal n lt small;
      zero_alone = λ is. rw is (decimal_digit 0 (omega arith));
    }

small : (z : ℤ) → FitsSigned w32 z → mag z + 1 < 2 ^ 63
small z fits = omega (arith, fits.sfits)

pub says : (z : ℤ) → FitsSigned w32 z → SaysInteger z (constant_text z)
unfolding constant_text
says (pos n) fits = says_number n (omega (arith, small (pos n) fits))
says (negsuc n) fits = (decimal (n + 1), refl, says_number (n + 1) (omega (arith, small (negsuc n) fits)))

pub one : (y z : ℤ) → FitsSigned w32 y → FitsSigned w32 z → constant_text y ≡ constant_text z → y ≡ z
one y z fits_y fits_z e =
    signed_decimal_injective y z (omega (arith, small y fits_y)) (omega (arith, small z fits_z)) (sym (constant_text_is y) ∙ e ∙ constant_text_is z)
