-- The literals: their form, their value and their type ([lex.icon]).
use Rattle.std.specs.Prelude.{ℕ, ◌+◌, ◌*◌, Bool, true, false, ◌||◌, ◌&&◌, not, nat_le, ◌==◌, if◌then◌else◌, Option, Some, None, List, [], ◌∷◌, codes, drop}
use Rattle.std.specs.Str.{bytes_eq}
use Rattle.std.specs.Char.{digit_value, is_ascii_hexdigit}
use Rattle.std.specs.List.{list_any, prefix_len, take_while}
use Rattle.cx_base.specs.declared.value.Scalar.{Scalar}
use Rattle.cx_base.specs.declared.value.Scalar.TheVariants as scalar

-- a decimal digit
unfoldable pub is_digit : ℕ → Bool
is_digit c = nat_le 48 c && nat_le c 57

-- whether a text is one of the words
unfoldable pub has_word : List (List ℕ) → List ℕ → Bool
has_word words text = list_any (λ word. bytes_eq text word) words

-- The suffixes of a literal: u or U, ll or LL, and both in either order.
unfoldable pub unsigned_suffixes : List (List ℕ)
unsigned_suffixes = codes "u" ∷ codes "U" ∷ []

unfoldable pub long_suffixes : List (List ℕ)
long_suffixes = codes "ll" ∷ codes "LL" ∷ []

unfoldable pub unsigned_long_suffixes : List (List ℕ)
unsigned_long_suffixes = codes "ull" ∷ codes "uLL" ∷ codes "Ull" ∷ codes "ULL" ∷ codes "llu" ∷ codes "LLu" ∷ codes "llU" ∷ codes "LLU" ∷ []

-- whether a number begins with `0x` or `0X`
unfoldable pub is_hexadecimal : List ℕ → Bool
is_hexadecimal [] = false
is_hexadecimal (z ∷ []) = false
is_hexadecimal (z ∷ x ∷ text) = z == 48 && (x == 120 || x == 88)

-- what of a number comes after its `0x`, if it has one
abbrev pub after_prefix : List ℕ → List ℕ
after_prefix text = if is_hexadecimal text then drop 2 text else text

-- whether a byte is a digit of a hexadecimal or of a decimal number
abbrev pub is_digit_of : Bool → ℕ → Bool
is_digit_of hexadecimal b = if hexadecimal then is_ascii_hexdigit b else is_digit b

-- The digits of a number, and what comes after them.
unfoldable pub digits_of : List ℕ → List ℕ
digits_of text = take_while (is_digit_of (is_hexadecimal text)) (after_prefix text)

unfoldable pub suffix_of : List ℕ → List ℕ
suffix_of text = drop (prefix_len (is_digit_of (is_hexadecimal text)) (after_prefix text)) (after_prefix text)

-- whether a number is unsigned by its suffix, and whether it is long long
unfoldable pub is_unsigned : List ℕ → Bool
is_unsigned suffix = has_word unsigned_suffixes suffix || has_word unsigned_long_suffixes suffix

unfoldable pub is_long : List ℕ → Bool
is_long suffix = has_word long_suffixes suffix || has_word unsigned_long_suffixes suffix

-- no suffix, or one of the suffixes
unfoldable pub is_suffix : List ℕ → Bool
is_suffix suffix = bytes_eq suffix [] || is_unsigned suffix || is_long suffix

-- whether digits begin with a zero after which others stand
abbrev pub has_leading_zero : List ℕ → Bool
has_leading_zero [] = false
has_leading_zero (d ∷ []) = false
has_leading_zero (d ∷ e ∷ digits) = d == 48

-- A literal: `0`, or a decimal number without leading zero, or `0x` or `0X` and hexadecimal digits; then a suffix
-- or none.
unfoldable pub is_literal : List ℕ → Bool
is_literal text = not (bytes_eq (digits_of text) []) && (is_hexadecimal text || not (has_leading_zero (digits_of text))) && is_suffix (suffix_of text)

-- The number that digits say to a base, after digits that say n.
abbrev pub number_after : ℕ → ℕ → List ℕ → ℕ
number_after base n [] = n
number_after base n (d ∷ ds) = number_after base (base * n + digit_value d) ds

-- The value of a literal: the number that its digits say to base 16 or 10.
unfoldable pub value_of : List ℕ → ℕ
value_of text = number_after (if is_hexadecimal text then 16 else 10) 0 (digits_of text)

-- The greatest value of a type.
abbrev pub greatest : Scalar → ℕ
greatest scalar.Bool = 1
greatest scalar.Int = 2147483647
greatest scalar.Unsigned = 4294967295
greatest scalar.LongLong = 9223372036854775807
greatest scalar.ULongLong = 18446744073709551615

-- The types that a literal may have, in order: by whether it is hexadecimal, unsigned and long long by its suffix.
abbrev pub row : Bool → Bool → Bool → List Scalar
row false false false = scalar.Int ∷ scalar.LongLong ∷ []
row true false false = scalar.Int ∷ scalar.Unsigned ∷ scalar.LongLong ∷ scalar.ULongLong ∷ []
row false true false = scalar.Unsigned ∷ scalar.ULongLong ∷ []
row true true false = scalar.Unsigned ∷ scalar.ULongLong ∷ []
row false false true = scalar.LongLong ∷ []
row true false true = scalar.LongLong ∷ scalar.ULongLong ∷ []
row false true true = scalar.ULongLong ∷ []
row true true true = scalar.ULongLong ∷ []

abbrev pub types_of : List ℕ → List Scalar
types_of text = row (is_hexadecimal text) (is_unsigned (suffix_of text)) (is_long (suffix_of text))

-- The first of some types that holds a value.
abbrev pub first_that_holds : ℕ → List Scalar → Option Scalar
first_that_holds value [] = None
first_that_holds value (ty ∷ tys) = if nat_le value (greatest ty) then Some ty else first_that_holds value tys

-- The type of a literal: the first in its row that holds its value, if one does.
unfoldable pub type_of : List ℕ → Option Scalar
type_of text = first_that_holds (value_of text) (types_of text)
