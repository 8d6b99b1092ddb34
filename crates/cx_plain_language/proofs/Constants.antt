-- The decimal text of a signed number, as std writes it, is that of the constant.
use Rattle.std.proofs.Common.{◌≡◌, ℕ, ◌∷◌, refl, ap, add-one}
use Rattle.std.specs.Prelude.{ℤ, pos, negsuc, decimal}
use Rattle.std.specs.Fmt.{signed_decimal}
use Rattle.cx_plain_language.specs.Text.{number_text}

pub number_text_is : (z : ℤ) → number_text z ≡ signed_decimal z
unfolding number_text
number_text_is (pos n) = refl
number_text_is (negsuc n) = ap (λ (m : ℕ). 45 ∷ decimal m) (add-one n)
