-- What it is for a text to say a number in decimal.
use Rattle.std.specs.Prelude.{◌≡◌, ℕ, ℤ, pos, negsuc, ◌+◌, ◌<◌, List, ◌++◌, codes, length, slice_index}
use Rattle.std.specs.Str.Parse.{AllDigits, digits_value}

-- Digits alone, whose value is the number, without a leading zero: the text of 0 is the one digit.
pub record SaysNumber (n : ℕ) (text : List ℕ) : Type 0 where
  pub digits : AllDigits 10 text
  pub value : digits_value 10 text ≡ n
  pub not_empty : 0 < length text
  pub no_leading_zero : 0 < n → 48 < slice_index text 0
  pub zero_alone : n ≡ 0 → text ≡ codes "0"

-- The magnitude, behind `-` where the number is negative.
abbrev pub SaysInteger : ℤ → List ℕ → Type 0
SaysInteger (pos n) text = SaysNumber n text
SaysInteger (negsuc n) text = (magnitude : List ℕ) × (text ≡ codes "-" ++ magnitude) × SaysNumber (n + 1) magnitude
