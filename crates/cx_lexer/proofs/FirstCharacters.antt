-- The first character of a piece says which row of the table may spell it.
use Rattle.std.proofs.Common.{◌≡◌, ℕ, ◌<◌, Bool, true, false, not, ◌&&◌, ◌||◌, eqb, ltb, inl, inr, List, [], ◌∷◌, ◌++◌, refl, sym, ap, ◌∙◌, subst, arith}
use Rattle.std.specs.Prelude.{codes, encode_utf8_all, bytes_eq}
use Rattle.std.specs.Char.{is_ascii_alphabetic, is_ascii_alphanumeric}
use Rattle.std.specs.List.{list_all, list_any, concat, AllByRecursion}
use Rattle.std.proofs.lemmas.Bool.{and_parts, and_from, or_cases, both_ways, false_from_ne_true, ltb-true, not-true, eq-eqb}
use Rattle.std.proofs.lemmas.Bool.Decides.{nat_tests}
use Rattle.std.proofs.lemmas.Slice.Eq.{bytes_eq-Decides}
use Rattle.std.proofs.lemmas.Str.{encode_ascii, encodes_same}
use Rattle.unicode_ident.proofs.IdentLemmas.{is_xid_start-ascii, is_xid_continue-ascii}
use Rattle.cx_lexer.specs.Characters.{is_digit, begins_name, continues_name}
use Rattle.cx_lexer.specs.Words.{has_word, reserved_words, used_words, unused_words, alternative_tokens, punctuators, three_characters, two_characters, one_character}
use Rattle.cx_lexer.specs.declared.token.TokenKind.{TokenKind}
use Rattle.cx_lexer.specs.declared.token.TokenKind.TheVariants as kind
use Rattle.cx_lexer.specs.Tokens.{text_of, is_identifier, is_word, is_punctuator, is_name, is_number, all_continue, IsStringCharacter, IsString, IsSpelling}
use Rattle.cx_lexer.proofs.SkippedPieces.{head_same, tail_same}

-- ---- characters below 128

begins_name-ascii : (c : ℕ) → c < 128 → begins_name c ≡ (eqb c 95 || is_ascii_alphabetic c)
unfolding begins_name
begins_name-ascii c lt = rw (is_xid_start-ascii c lt) refl

continues_name-ascii : (c : ℕ) → c < 128 → continues_name c ≡ (is_ascii_alphanumeric c || eqb c 95)
unfolding continues_name
continues_name-ascii c lt = is_xid_continue-ascii c lt

digit_ascii : (c : ℕ) → is_digit c ≡ true → c < 128
unfolding is_digit
digit_ascii c e = grind (arith, nat_tests)

digit_is_no_letter : (c : ℕ) → is_digit c ≡ true → (eqb c 95 || is_ascii_alphabetic c) ≡ false
unfolding is_digit
digit_is_no_letter c e = grind (arith, nat_tests)

pub digit_begins_none : (c : ℕ) → is_digit c ≡ true → begins_name c ≡ false
digit_begins_none c e = begins_name-ascii c (digit_ascii c e) ∙ digit_is_no_letter c e

pub digit_no_quote : (c : ℕ) → is_digit c ≡ true → eqb c 34 ≡ false
unfolding is_digit
digit_no_quote c e = grind (arith, nat_tests)

quote_begins_none : begins_name 34 ≡ false
quote_begins_none = begins_name-ascii 34 (ltb-true 34 128 refl)

pub name_no_digit : (c : ℕ) → begins_name c ≡ true → is_digit c ≡ false
name_no_digit c e = false_from_ne_true (is_digit c) (λ digit. both_ways (begins_name c) (digit_begins_none c digit) e)

pub name_no_quote : (c : ℕ) → begins_name c ≡ true → eqb c 34 ≡ false
name_no_quote c e = false_from_ne_true (eqb c 34) (λ quote. both_ways (begins_name 34) quote_begins_none (ap begins_name (sym (is c quote)) ∙ e))
  where
    is : (d : ℕ) → eqb d 34 ≡ true → d ≡ 34
    is d quote = grind (arith, nat_tests)

pub quote_begins_no_name : (c : ℕ) → eqb c 34 ≡ true → begins_name c ≡ false
quote_begins_no_name c quote = false_from_ne_true (begins_name c) (λ name. both_ways (eqb c 34) (name_no_quote c name) quote)

pub quote_no_digit : (c : ℕ) → eqb c 34 ≡ true → is_digit c ≡ false
quote_no_digit c quote = false_from_ne_true (is_digit c) (λ digit. both_ways (eqb c 34) (digit_no_quote c digit) quote)

-- ---- words of the lists

abbrev all_ascii : List ℕ → Bool
all_ascii text = list_all (λ c. ltb c 128) text

encodes_ascii : (text : List ℕ) → all_ascii text ≡ true → encode_utf8_all text ≡ text
encodes_ascii [] e = refl
encodes_ascii (c ∷ cs) e =
    let parts = and_parts (ltb c 128) (all_ascii cs) e in
    rw (encode_ascii c (ltb-true c 128 parts.0), encodes_ascii cs parts.1) refl

-- a piece whose bytes are below 128 is its bytes
pub piece_ascii : (piece : List ℕ) → all_ascii (text_of piece) ≡ true → text_of piece ≡ piece
piece_ascii piece e = encodes_same (text_of piece) piece (encodes_ascii (text_of piece) e)

-- what passes of all words passes of a text that is one of them
pub word_passes : (p : List ℕ → Bool) (words : List (List ℕ)) (text : List ℕ) → list_all p words ≡ true → has_word words text ≡ true → p text ≡ true
unfolding has_word
word_passes p [] text all e = absurd cc
word_passes p (w ∷ ws) text all e =
    let parts = and_parts (p w) (list_all p ws) all in
    elim (or_cases (bytes_eq text w) (list_any (λ word. bytes_eq text word) ws) e) [
      | inl is ↦ ap p ((bytes_eq-Decides text w).0 is) ∙ parts.0
      | inr other ↦ word_passes p ws text parts.1 other
    ]

abbrev pub is_letter : ℕ → Bool
is_letter c = ltb c 128 && (eqb c 95 || is_ascii_alphabetic c)

abbrev pub goes_on : ℕ → Bool
goes_on c = ltb c 128 && (is_ascii_alphanumeric c || eqb c 95)

-- a word that is an identifier of characters below 128
abbrev pub is_plain_name : List ℕ → Bool
is_plain_name [] = false
is_plain_name (c ∷ cs) = is_letter c && list_all goes_on cs

abbrev pub is_operator : ℕ → Bool
is_operator c = ltb c 128 && (not (eqb c 95 || is_ascii_alphabetic c) && (not (is_digit c) && not (eqb c 34)))

abbrev is_plain_operator : List ℕ → Bool
is_plain_operator [] = false
is_plain_operator (c ∷ cs) = is_operator c && all_ascii cs

pub reserved_plain : list_all is_plain_name reserved_words ≡ true
unfolding reserved_words used_words unused_words
reserved_plain = refl

pub alternatives_plain : list_all is_plain_name alternative_tokens ≡ true
unfolding alternative_tokens
alternatives_plain = refl

punctuators_plain : list_all is_plain_operator punctuators ≡ true
unfolding punctuators three_characters two_characters one_character is_digit
punctuators_plain = refl

goes_on_ascii : (cs : List ℕ) → list_all goes_on cs ≡ true → all_ascii cs ≡ true
goes_on_ascii [] e = refl
goes_on_ascii (c ∷ cs) e =
    let parts = and_parts (goes_on c) (list_all goes_on cs) e in
    and_from (ltb c 128) (all_ascii cs) (and_parts (ltb c 128) (is_ascii_alphanumeric c || eqb c 95) parts.0).0 (goes_on_ascii cs parts.1)

name_ascii : (text : List ℕ) → is_plain_name text ≡ true → all_ascii text ≡ true
name_ascii [] e = refl
name_ascii (c ∷ cs) e =
    let parts = and_parts (is_letter c) (list_all goes_on cs) e in
    and_from (ltb c 128) (all_ascii cs) (and_parts (ltb c 128) (eqb c 95 || is_ascii_alphabetic c) parts.0).0 (goes_on_ascii cs parts.1)

operator_ascii : (text : List ℕ) → is_plain_operator text ≡ true → all_ascii text ≡ true
operator_ascii [] e = refl
operator_ascii (c ∷ cs) e =
    let parts = and_parts (is_operator c) (all_ascii cs) e in
    and_from (ltb c 128) (all_ascii cs) (and_parts (ltb c 128) (not (eqb c 95 || is_ascii_alphabetic c) && (not (is_digit c) && not (eqb c 34))) parts.0).0 parts.1

goes_on_name : (cs : List ℕ) → list_all goes_on cs ≡ true → list_all continues_name cs ≡ true
goes_on_name [] e = refl
goes_on_name (c ∷ cs) e =
    let parts = and_parts (goes_on c) (list_all goes_on cs) e in
    let here = and_parts (ltb c 128) (is_ascii_alphanumeric c || eqb c 95) parts.0 in
    and_from (continues_name c) (list_all continues_name cs) (continues_name-ascii c (ltb-true c 128 here.0) ∙ here.1) (goes_on_name cs parts.1)

letter_begins : (c : ℕ) → is_letter c ≡ true → begins_name c ≡ true
letter_begins c e =
    let here = and_parts (ltb c 128) (eqb c 95 || is_ascii_alphabetic c) e in
    begins_name-ascii c (ltb-true c 128 here.0) ∙ here.1

plain_identifier : (text : List ℕ) → is_plain_name text ≡ true → is_identifier text ≡ true
unfolding is_identifier
plain_identifier [] e = absurd cc
plain_identifier (c ∷ cs) e =
    let parts = and_parts (is_letter c) (list_all goes_on cs) e in
    and_from (begins_name c) (list_all continues_name cs) (letter_begins c parts.0) (goes_on_name cs parts.1)

-- a piece that is a word of a list of names is an identifier
pub named_identifier : (words : List (List ℕ)) (piece : List ℕ) → list_all is_plain_name words ≡ true → has_word words (text_of piece) ≡ true → is_identifier piece ≡ true
named_identifier words piece plain e =
    let name : is_plain_name (text_of piece) ≡ true = word_passes is_plain_name words (text_of piece) plain e in
    subst (λ (x : List ℕ). is_identifier x ≡ true) (piece_ascii piece (name_ascii (text_of piece) name)) (plain_identifier (text_of piece) name)

-- what begins an operator
pub record Operator (c : ℕ) : Type 0 where
  pub no_name : begins_name c ≡ false
  pub no_digit : is_digit c ≡ false
  pub no_quote : eqb c 34 ≡ false

pub operator_is : (c : ℕ) → is_operator c ≡ true → Operator c
operator_is c e =
    let here = and_parts (ltb c 128) (not (eqb c 95 || is_ascii_alphabetic c) && (not (is_digit c) && not (eqb c 34))) e in
    let both = and_parts (not (eqb c 95 || is_ascii_alphabetic c)) (not (is_digit c) && not (eqb c 34)) here.1 in
    let last = and_parts (not (is_digit c)) (not (eqb c 34)) both.1 in
    record {
      no_name = begins_name-ascii c (ltb-true c 128 here.0) ∙ not-true (eqb c 95 || is_ascii_alphabetic c) both.0;
      no_digit = not-true (is_digit c) last.0;
      no_quote = not-true (eqb c 34) last.1;
    }

plain_operator : (c : ℕ) (cs : List ℕ) → is_plain_operator (c ∷ cs) ≡ true → Operator c
plain_operator c cs e = operator_is c (and_parts (is_operator c) (all_ascii cs) e).0

-- a piece that is a punctuator is its bytes
pub punctuator_bytes : (piece : List ℕ) → has_word punctuators (text_of piece) ≡ true → text_of piece ≡ piece
punctuator_bytes piece e = piece_ascii piece (operator_ascii (text_of piece) (word_passes is_plain_operator punctuators (text_of piece) punctuators_plain e))

-- and so is a punctuator
pub word_bytes : (word : List ℕ) → has_word punctuators word ≡ true → text_of word ≡ word
word_bytes word e = encodes_ascii word (operator_ascii word (word_passes is_plain_operator punctuators word punctuators_plain e))

pub punctuator_operator : (c : ℕ) (cs : List ℕ) → has_word punctuators (text_of (c ∷ cs)) ≡ true → Operator c
punctuator_operator c cs e =
    plain_operator c cs (subst (λ (x : List ℕ). is_plain_operator x ≡ true) (punctuator_bytes (c ∷ cs) e) (word_passes is_plain_operator punctuators (text_of (c ∷ cs)) punctuators_plain e))

identifier_begins : (c : ℕ) (cs : List ℕ) → is_identifier (c ∷ cs) ≡ true → begins_name c ≡ true
unfolding is_identifier
identifier_begins c cs e = (and_parts (begins_name c) (list_all continues_name cs) e).0

-- where no name begins, no word stands
pub no_reserved : (c : ℕ) (cs : List ℕ) → begins_name c ≡ false → has_word reserved_words (text_of (c ∷ cs)) ≡ false
no_reserved c cs none = false_from_ne_true (has_word reserved_words (text_of (c ∷ cs))) (λ e. both_ways (begins_name c) none (identifier_begins c cs (named_identifier reserved_words (c ∷ cs) reserved_plain e)))

pub no_alternative : (c : ℕ) (cs : List ℕ) → begins_name c ≡ false → has_word alternative_tokens (text_of (c ∷ cs)) ≡ false
no_alternative c cs none = false_from_ne_true (has_word alternative_tokens (text_of (c ∷ cs))) (λ e. both_ways (begins_name c) none (identifier_begins c cs (named_identifier alternative_tokens (c ∷ cs) alternatives_plain e)))

-- where an operator does not begin, no punctuator stands
pub no_punctuator : (c : ℕ) (cs : List ℕ) → (Operator c → ⊥) → has_word punctuators (text_of (c ∷ cs)) ≡ false
no_punctuator c cs none = false_from_ne_true (has_word punctuators (text_of (c ∷ cs))) (λ e. none (punctuator_operator c cs e))

-- ---- the rows by their first character

-- what stands behind the first quotation mark of a string
abbrev pub IsStringEnd : List ℕ → Type 0
IsStringEnd text = (characters : List (List ℕ)) × AllByRecursion IsStringCharacter characters × (text ≡ concat characters ++ codes "\"")

pub data Row (c : ℕ) (cs : List ℕ) : Type 0 where
  Identifier : begins_name c ≡ true → list_all continues_name cs ≡ true → Row c cs
  Number : is_digit c ≡ true → all_continue c cs ≡ true → Row c cs
  Str : eqb c 34 ≡ true → IsStringEnd cs → Row c cs
  Punctuator : Operator c → has_word punctuators (c ∷ cs) ≡ true → Row c cs

identifier_row : (c : ℕ) (cs : List ℕ) → is_identifier (c ∷ cs) ≡ true → Row c cs
unfolding is_identifier
identifier_row c cs e = let parts = and_parts (begins_name c) (list_all continues_name cs) e in Identifier parts.0 parts.1

name_row : (c : ℕ) (cs : List ℕ) → is_name (c ∷ cs) ≡ true → Row c cs
unfolding is_name
name_row c cs e =
    let p = c ∷ cs in
    identifier_row c cs (and_parts (is_identifier p) (not (is_word p)) (and_parts (is_identifier p && not (is_word p)) (not (is_punctuator p)) e).0).0

word_row : (c : ℕ) (cs : List ℕ) → is_word (c ∷ cs) ≡ true → Row c cs
unfolding is_word
word_row c cs e = identifier_row c cs (named_identifier reserved_words (c ∷ cs) reserved_plain e)

number_row : (c : ℕ) (cs : List ℕ) → is_number (c ∷ cs) ≡ true → Row c cs
unfolding is_number
number_row c cs e = let parts = and_parts (is_digit c) (all_continue c cs) e in Number parts.0 parts.1

string_row : (c : ℕ) (cs : List ℕ) → IsString (c ∷ cs) → Row c cs
string_row c cs s =
    Str (eq-eqb c 34 (head_same c 34 cs (concat s.0 ++ codes "\"") s.2)) (s.0, s.1, tail_same c 34 cs (concat s.0 ++ codes "\"") s.2)

punctuator_row : (c : ℕ) (cs : List ℕ) → is_punctuator (c ∷ cs) ≡ true → Row c cs
unfolding is_punctuator
punctuator_row c cs e =
    elim (or_cases (has_word punctuators (text_of (c ∷ cs))) (has_word alternative_tokens (text_of (c ∷ cs))) e) [
      | inl is_so ↦ Punctuator (punctuator_operator c cs is_so) (ap (has_word punctuators) (sym (punctuator_bytes (c ∷ cs) is_so)) ∙ is_so)
      | inr word ↦ identifier_row c cs (named_identifier alternative_tokens (c ∷ cs) alternatives_plain word)
    ]

pub row_of : (c : ℕ) (cs : List ℕ) (k : TokenKind) → IsSpelling k (c ∷ cs) → Row c cs
row_of c cs kind.Name e = name_row c cs e
row_of c cs kind.Word e = word_row c cs e
row_of c cs kind.Int e = number_row c cs e
row_of c cs kind.Str e = string_row c cs e
row_of c cs kind.Punct e = punctuator_row c cs e
row_of c cs kind.End e = absurd e

-- a row spells no empty piece
pub empty_unspelled : (k : TokenKind) → IsSpelling k [] → ⊥
unfolding is_name is_identifier is_word is_number is_punctuator has_word reserved_words used_words unused_words punctuators three_characters two_characters one_character alternative_tokens
empty_unspelled kind.Name e = absurd cc
empty_unspelled kind.Word e = absurd cc
empty_unspelled kind.Int e = absurd cc
empty_unspelled kind.Str e = absurd (let f : [] ≡ 34 ∷ (concat e.0 ++ codes "\"") = e.2 in cc)
empty_unspelled kind.Punct e = absurd cc
empty_unspelled kind.End e = e
