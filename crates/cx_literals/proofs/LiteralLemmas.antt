-- Numbers and their digits.
use Rattle.std.proofs.Common.{◌≡◌, ℕ, ◌+◌, ◌*◌, ◌<◌, ◌≤◌, Bool, true, false, cond, leb, inl, inr, List, [], ◌∷◌, length, get_or, drop, Option, Some, None, refl, sym, ap, ◌∙◌, arith}
use Rattle.std.specs.Char.{digit_value, is_ascii_hexdigit}
use Rattle.std.specs.List.{list_all}
use Rattle.std.specs.Option.{option_map}
use Rattle.std.proofs.Math.Nat.{mul-le-mul_left}
use Rattle.std.proofs.lemmas.Bool.{cases_Bool, and_parts, and_from, le-leb, lt-leb, leb-false}
use Rattle.std.proofs.lemmas.Bool.Decides.{nat_tests}
use Rattle.std.proofs.lemmas.List.{drop_more, drop_all}
use Rattle.cx_base.specs.declared.value.Scalar.{Scalar}
use Rattle.cx_base.specs.declared.value.Scalar.TheVariants as scalar
use Rattle.cx_tokens.specs.Literals.{is_digit}
use Rattle.cx_tokens.specs.Literals.{is_hexadecimal, after_prefix, is_digit_of, digits_of, number_after, value_of, greatest, first_that_holds, types_of, type_of}
use Rattle.cx_literals.proofs.Front.{list_all-front}

pub hexadecimal_length : (text : List ℕ) → is_hexadecimal text ≡ true → 2 ≤ length text
unfolding is_hexadecimal
hexadecimal_length [] e = absurd cc
hexadecimal_length (a ∷ []) e = absurd cc
hexadecimal_length (a ∷ b ∷ text) e = omega arith

digit_is_hexadecimal : (b : ℕ) → is_digit b ≡ true → is_ascii_hexdigit b ≡ true
unfolding is_digit
digit_is_hexadecimal b e = grind (arith, nat_tests)

any_digit : (h : Bool) (b : ℕ) → is_digit_of h b ≡ true → is_digit_of true b ≡ true
any_digit true b e = e
any_digit false b e = digit_is_hexadecimal b e

all_digits : (h : Bool) (text : List ℕ) → list_all (is_digit_of h) text ≡ true → list_all (is_digit_of true) text ≡ true
all_digits h [] e = refl
all_digits h (b ∷ bs) e =
    let parts = and_parts (is_digit_of h b) (list_all (is_digit_of h) bs) e in
    and_from (is_digit_of true b) (list_all (is_digit_of true) bs) (any_digit h b parts.0) (all_digits h bs parts.1)

pub digits_all : (text : List ℕ) → list_all (is_digit_of true) (digits_of text) ≡ true
unfolding digits_of
digits_all text = all_digits (is_hexadecimal text) (digits_of text) (list_all-front (is_digit_of (is_hexadecimal text)) (after_prefix text))

-- ---- reading digits

pub le-number_after : (base n : ℕ) (digits : List ℕ) → 1 ≤ base → n ≤ number_after base n digits
le-number_after base n [] le = omega arith
le-number_after base n (d ∷ ds) le =
    let grows : n * 1 ≤ n * base = mul-le-mul_left n le in
    let more : base * n + digit_value d ≤ number_after base (base * n + digit_value d) ds = le-number_after base (base * n + digit_value d) ds le in
    omega arith

pub number-digit : (base n : ℕ) (text : List ℕ) (i whole : ℕ) → i < length text → number_after base n (drop i text) ≡ whole → number_after base (base * n + digit_value (get_or text i 0)) (drop (i + 1) text) ≡ whole
number-digit base n text i whole lt so_far = sym (ap (number_after base n) (drop_more text i 0 lt)) ∙ so_far

pub number-end : (base n : ℕ) (text : List ℕ) (i whole : ℕ) → length text ≤ i → number_after base n (drop i text) ≡ whole → n ≡ whole
number-end base n text i whole le so_far = sym (ap (number_after base n) (drop_all i text le)) ∙ so_far

pub digits-next : (text : List ℕ) (i : ℕ) → i < length text → list_all (is_digit_of true) (drop i text) ≡ true → (is_digit_of true (get_or text i 0) ≡ true) × (list_all (is_digit_of true) (drop (i + 1) text) ≡ true)
digits-next text i lt all = and_parts (is_digit_of true (get_or text i 0)) (list_all (is_digit_of true) (drop (i + 1) text)) (sym (ap (list_all (is_digit_of true)) (drop_more text i 0 lt)) ∙ all)

-- a number, where a type holds it
abbrev pub held : ℕ → Option ℕ
held n = cond (leb n 18446744073709551615) (Some n) None

pub held_small : (n whole : ℕ) → n ≤ 18446744073709551615 → n ≡ whole → Some n ≡ held whole
held_small n whole le is = let small : leb whole 18446744073709551615 ≡ true = le-leb whole 18446744073709551615 (omega arith) in rw (small, is) refl

pub held_big : (whole : ℕ) → 18446744073709551615 < whole → None ≡ held whole
held_big whole lt = let big : leb whole 18446744073709551615 ≡ false = lt-leb whole 18446744073709551615 lt in rw big refl

-- ---- types

greatest_of_all : (ty : Scalar) → greatest ty ≤ 18446744073709551615
greatest_of_all scalar.Bool = omega arith
greatest_of_all scalar.Int = omega arith
greatest_of_all scalar.Unsigned = omega arith
greatest_of_all scalar.LongLong = omega arith
greatest_of_all scalar.ULongLong = omega arith

none_holds : (value : ℕ) (types : List Scalar) → 18446744073709551615 < value → first_that_holds value types ≡ None
none_holds value [] big = refl
none_holds value (ty ∷ tys) big =
    let over : leb value (greatest ty) ≡ false = lt-leb value (greatest ty) (omega (arith, greatest_of_all ty)) in
    rw over (none_holds value tys big)

small_of_held : (n value : ℕ) → Some value ≡ held n → value ≡ n
small_of_held n value e =
    elim (cases_Bool (leb n 18446744073709551615)) [
      | inl small ↦ (let f = rw small at e in let g : Some value ≡ Some n = f in cc)
      | inr big ↦ (let f = rw big at e in let g : Some value ≡ None = f in absurd cc)
    ]

big_of_held : (n : ℕ) → None ≡ held n → 18446744073709551615 < n
big_of_held n e =
    elim (cases_Bool (leb n 18446744073709551615)) [
      | inl small ↦ (let f = rw small at e in let g : None ≡ Some n = f in absurd cc)
      | inr big ↦ leb-false n 18446744073709551615 big
    ]

pub value_is : (text digits : List ℕ) (base : ℕ) → base ≡ cond (is_hexadecimal text) 16 10 → digits ≡ digits_of text → number_after base 0 digits ≡ value_of text
unfolding value_of
value_is text digits base b d = ap (λ (x : ℕ). number_after x 0 digits) b ∙ ap (number_after (cond (is_hexadecimal text) 16 10) 0) d

pub held_value : (o : Option ℕ) (text digits : List ℕ) (base : ℕ) → base ≡ cond (is_hexadecimal text) 16 10 → digits ≡ digits_of text → o ≡ held (number_after base 0 digits) → o ≡ held (value_of text)
held_value o text digits base b d e = e ∙ ap held (value_is text digits base b d)

pub type_held : (text : List ℕ) (types : List Scalar) (value : ℕ) → types ≡ types_of text → Some value ≡ held (value_of text) → first_that_holds value types ≡ type_of text
unfolding type_of
type_held text types value ts e = let is : value ≡ value_of text = small_of_held _ value e in rw (is, ts) refl

pub type_too_big : (text : List ℕ) → None ≡ held (value_of text) → None ≡ type_of text
unfolding type_of
type_too_big text e = sym (none_holds (value_of text) (types_of text) (big_of_held _ e))

-- ---- a literal's type and value

-- what a literal is read as
abbrev pub typed : List ℕ → Option (Scalar × ℕ)
typed text = option_map (λ ty. (ty, value_of text)) (type_of text)

pub literal_typed : (text : List ℕ) (ty : Scalar) (value : ℕ) → Some ty ≡ type_of text → Some value ≡ held (value_of text) → Some (ty, value) ≡ typed text
literal_typed text ty value t v = rw (← t, ← small_of_held _ value v) refl

pub literal_too_big : (text : List ℕ) → None ≡ held (value_of text) → None ≡ typed text
literal_too_big text v = rw (← type_too_big text v) refl
