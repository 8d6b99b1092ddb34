-- The kind of a piece by its first character, and what is wrong with a number.
use Rattle.std.proofs.Common.{◌≡◌, ◌≢◌, ℕ, true, false, not, ◌&&◌, ◌||◌, eqb, inl, inr, ◌⊎◌, List, [], ◌∷◌, ◌++◌, Option, Some, None, is_none, refl, sym, ap, ◌∙◌}
use Rattle.std.specs.Prelude.{codes, IsTrue}
use Rattle.std.specs.List.{list_all, concat}
use Rattle.std.proofs.lemmas.Bool.{cases_Bool, and_parts, and_from, or_left, or_right, both_ways, not-true, or_cases, or_parts, eqb-true, eq-eqb}
use Rattle.cx_base.specs.declared.kind.Kind.{Kind}
use Rattle.cx_base.specs.declared.kind.Kind.TheVariants as fault
use Rattle.cx_base.specs.declared.value.Scalar.{Scalar}
use Rattle.cx_lexer.specs.declared.token.TokenKind.{TokenKind}
use Rattle.cx_lexer.specs.declared.token.TokenKind.TheVariants as kind
use Rattle.cx_lexer.specs.Characters.{is_digit, begins_name, continues_name}
use Rattle.cx_lexer.specs.Words.{has_word, reserved_words, used_words, unused_words, alternative_tokens, punctuators}
use Rattle.cx_lexer.specs.Literals.{is_literal, type_of}
use Rattle.cx_lexer.specs.Tokens.{text_of, is_identifier, is_word, is_punctuator, is_name, is_number, all_continue, IsString, IsSpelling, IsSomeSpelling}
use Rattle.cx_lexer.specs.Reading.{word_kind, kind_by, number_fault, token_fault, is_end}
use Rattle.cx_lexer.proofs.SkippedPieces.{head_same}
use Rattle.cx_lexer.proofs.FirstCharacters.{Operator, Row, Identifier, Number, Str, Punctuator, row_of, word_passes, named_identifier, reserved_plain, alternatives_plain, digit_begins_none, quote_begins_no_name, quote_no_digit, no_punctuator, punctuator_operator, empty_unspelled, word_bytes}

-- an alternative token is no reserved word
alternatives_unreserved : list_all (λ w. not (has_word reserved_words w)) alternative_tokens ≡ true
unfolding has_word reserved_words used_words unused_words alternative_tokens
alternatives_unreserved = refl

alternative_unreserved : (text : List ℕ) → has_word alternative_tokens text ≡ true → has_word reserved_words text ≡ false
alternative_unreserved text e = not-true (has_word reserved_words text) (word_passes (λ w. not (has_word reserved_words w)) alternative_tokens text alternatives_unreserved e)

named_begins : (c : ℕ) (cs : List ℕ) → is_identifier (c ∷ cs) ≡ true → begins_name c ≡ true
unfolding is_identifier
named_begins c cs e = (and_parts (begins_name c) (list_all continues_name cs) e).0

-- ---- the reader's kind is that of a row

name_spells : (c : ℕ) (cs : List ℕ) → is_identifier (c ∷ cs) ≡ true → has_word reserved_words (text_of (c ∷ cs)) ≡ false → has_word punctuators (text_of (c ∷ cs)) ≡ false → has_word alternative_tokens (text_of (c ∷ cs)) ≡ false → is_name (c ∷ cs) ≡ true
unfolding is_name is_word is_punctuator
name_spells c cs identifier reserved punctuator alternative = rw (identifier, reserved, punctuator, alternative) refl

word_spells : (c : ℕ) (cs : List ℕ) → is_identifier (c ∷ cs) ≡ true → has_word punctuators (text_of (c ∷ cs)) ≡ false → IsSpelling (word_kind (text_of (c ∷ cs))) (c ∷ cs)
unfolding word_kind is_word is_punctuator is_name
word_spells c cs identifier none =
    let text = text_of (c ∷ cs) in
    elim (cases_Bool (has_word reserved_words text)) [
      | inl reserved ↦ rw reserved reserved
      | inr other ↦ elim (cases_Bool (has_word alternative_tokens text)) [
        | inl alternative ↦ rw (other, alternative) (or_right (has_word punctuators text) (has_word alternative_tokens text) alternative)
        | inr neither ↦ rw (other, neither) (name_spells c cs identifier other none neither)
      ]
    ]

row_spells : (c : ℕ) (cs : List ℕ) → Row c cs → IsSpelling (kind_by c (text_of (c ∷ cs))) (c ∷ cs)
unfolding kind_by is_number is_punctuator is_identifier
row_spells c cs (Identifier name all) =
    rw name (word_spells c cs (and_from (begins_name c) (list_all continues_name cs) name all) (no_punctuator c cs (λ o. both_ways (begins_name c) o.no_name name)))
row_spells c cs (Number digit all) = rw (digit_begins_none c digit, digit) (and_from (is_digit c) (all_continue c cs) digit all)
row_spells c cs (Str quote end) =
    rw (quote_begins_no_name c quote, quote_no_digit c quote, quote) (end.0, end.1, ap (λ (x : ℕ). x ∷ cs) (eqb-true c 34 quote) ∙ ap (λ (x : List ℕ). 34 ∷ x) end.2)
row_spells c cs (Punctuator o one) =
    rw (o.no_name, o.no_digit, o.no_quote) (or_left (has_word punctuators (text_of (c ∷ cs))) (has_word alternative_tokens (text_of (c ∷ cs))) (ap (has_word punctuators) (word_bytes (c ∷ cs) one) ∙ one))

pub spelled_row : (c : ℕ) (cs : List ℕ) → Row c cs → IsSomeSpelling (c ∷ cs)
spelled_row c cs row = (kind_by c (text_of (c ∷ cs)), row_spells c cs row)

pub kind_spells : (c : ℕ) (cs : List ℕ) → IsSomeSpelling (c ∷ cs) → IsSpelling (kind_by c (text_of (c ∷ cs))) (c ∷ cs)
kind_spells c cs s = row_spells c cs (row_of c cs s.0 s.1)

-- ---- a piece is a spelling of one kind

named_word : (c : ℕ) (cs : List ℕ) → is_identifier (c ∷ cs) ≡ true → kind_by c (text_of (c ∷ cs)) ≡ word_kind (text_of (c ∷ cs))
unfolding kind_by
named_word c cs identifier = rw (named_begins c cs identifier) refl

operator_kind : (c : ℕ) (text : List ℕ) → Operator c → kind.Punct ≡ kind_by c text
unfolding kind_by
operator_kind c text o = rw (o.no_name, o.no_digit, o.no_quote) refl

alternative_kind : (text : List ℕ) → has_word alternative_tokens text ≡ true → kind.Punct ≡ word_kind text
unfolding word_kind
alternative_kind text e = rw (alternative_unreserved text e, e) refl

name_kind : (c : ℕ) (cs : List ℕ) → is_name (c ∷ cs) ≡ true → kind.Name ≡ kind_by c (text_of (c ∷ cs))
unfolding is_name is_word is_punctuator word_kind
name_kind c cs e =
    let text = text_of (c ∷ cs) in
    let parts = and_parts (is_identifier (c ∷ cs) && not (has_word reserved_words text)) (not (has_word punctuators text || has_word alternative_tokens text)) e in
    let first = and_parts (is_identifier (c ∷ cs)) (not (has_word reserved_words text)) parts.0 in
    let neither = or_parts (has_word punctuators text) (has_word alternative_tokens text) (not-true (has_word punctuators text || has_word alternative_tokens text) parts.1) in
    rw (named_word c cs first.0, not-true (has_word reserved_words text) first.1, neither.1) refl

word_is : (c : ℕ) (cs : List ℕ) → is_word (c ∷ cs) ≡ true → kind.Word ≡ kind_by c (text_of (c ∷ cs))
unfolding is_word word_kind
word_is c cs e = rw (named_word c cs (named_identifier reserved_words (c ∷ cs) reserved_plain e), e) refl

pub number_is : (c : ℕ) (cs text : List ℕ) → is_number (c ∷ cs) ≡ true → kind.Int ≡ kind_by c text
unfolding is_number kind_by
number_is c cs text e =
    let digit = (and_parts (is_digit c) (all_continue c cs) e).0 in
    rw (digit_begins_none c digit, digit) refl

string_is : (c : ℕ) (cs text : List ℕ) → IsString (c ∷ cs) → kind.Str ≡ kind_by c text
unfolding kind_by
string_is c cs text s =
    let quote : eqb c 34 ≡ true = eq-eqb c 34 (head_same c 34 cs (concat s.0 ++ codes "\"") s.2) in
    rw (quote_begins_no_name c quote, quote_no_digit c quote, quote) refl

punctuator_is : (c : ℕ) (cs : List ℕ) → is_punctuator (c ∷ cs) ≡ true → kind.Punct ≡ kind_by c (text_of (c ∷ cs))
unfolding is_punctuator
punctuator_is c cs e =
    let text = text_of (c ∷ cs) in
    elim (or_cases (has_word punctuators text) (has_word alternative_tokens text) e) [
      | inl operator ↦ operator_kind c text (punctuator_operator c cs operator)
      | inr word ↦ alternative_kind text word ∙ sym (named_word c cs (named_identifier alternative_tokens (c ∷ cs) alternatives_plain word))
    ]

pub kind_is : (c : ℕ) (cs : List ℕ) (k : TokenKind) → IsSpelling k (c ∷ cs) → k ≡ kind_by c (text_of (c ∷ cs))
kind_is c cs kind.Name e = name_kind c cs e
kind_is c cs kind.Word e = word_is c cs e
kind_is c cs kind.Int e = number_is c cs (text_of (c ∷ cs)) e
kind_is c cs kind.Str e = string_is c cs (text_of (c ∷ cs)) e
kind_is c cs kind.Punct e = punctuator_is c cs e
kind_is c cs kind.End e = absurd e

pub one_kind : (piece : List ℕ) (k j : TokenKind) → IsSpelling k piece → IsSpelling j piece → k ≡ j
one_kind [] k j e f = absurd (empty_unspelled k e)
one_kind (c ∷ cs) k j e f = kind_is c cs k e ∙ sym (kind_is c cs j f)

-- the end has no spelling
pub not_end : (piece : List ℕ) (k : TokenKind) → IsSpelling k piece → is_end k ≡ false
not_end piece kind.Name e = refl
not_end piece kind.Word e = refl
not_end piece kind.Int e = refl
not_end piece kind.Str e = refl
not_end piece kind.Punct e = refl
not_end piece kind.End e = absurd e

pub no_end : (k : TokenKind) → is_end k ≡ false → k ≢ kind.End
no_end k e is = both_ways (is_end k) e (ap is_end is)

-- ---- faults

pub fault_of_int : (k : TokenKind) (text : List ℕ) (f : Kind) → token_fault k text ≡ Some f → (k ≡ kind.Int) × (number_fault text ≡ Some f)
fault_of_int kind.Int text f e = (refl, e)
fault_of_int kind.Name text f e = absurd cc
fault_of_int kind.Word text f e = absurd cc
fault_of_int kind.Str text f e = absurd cc
fault_of_int kind.Punct text f e = absurd cc
fault_of_int kind.End text f e = absurd cc

untyped : (o : Option Scalar) → is_none o ≡ true → o ≡ None
untyped None e = refl
untyped (Some x) e = absurd cc

typed : (o : Option Scalar) → is_none o ≡ false → o ≢ None
typed None e is = absurd cc
typed (Some x) e is = absurd cc

pub number_good : (text : List ℕ) → number_fault text ≡ None → IsTrue (is_literal text) × (type_of text ≢ None)
unfolding number_fault
number_good text e =
    elim (cases_Bool (is_literal text)) [
      | inl literal ↦ elim (cases_Bool (is_none (type_of text))) [
        | inl none ↦ (let f = rw (literal, none) at e in let g : Some fault.LiteralTooBig ≡ None = f in absurd cc)
        | inr some ↦ (literal, typed (type_of text) some)
      ]
      | inr other ↦ (let f = rw other at e in let g : Some fault.BadToken ≡ None = f in absurd cc)
    ]

pub number_bad : (text : List ℕ) (f : Kind) → number_fault text ≡ Some f
    → (IsTrue (is_literal text) × (type_of text ≡ None) × (f ≡ fault.LiteralTooBig)) ⊎ ((¬ (IsTrue (is_literal text))) × (f ≡ fault.BadToken))
unfolding number_fault
number_bad text f e =
    elim (cases_Bool (is_literal text)) [
      | inl literal ↦ elim (cases_Bool (is_none (type_of text))) [
        | inl none ↦ (
            let g = rw (literal, none) at e in
            let h : Some fault.LiteralTooBig ≡ Some f = g in
            let is : f ≡ fault.LiteralTooBig = cc in
            inl (literal, untyped (type_of text) none, is))
        | inr some ↦ (let g = rw (literal, some) at e in let h : None ≡ Some f = g in absurd cc)
      ]
      | inr other ↦ (
          let g = rw other at e in
          let h : Some fault.BadToken ≡ Some f = g in
          let is : f ≡ fault.BadToken = cc in
          inr ((λ literal. both_ways (is_literal text) other literal), is))
    ]
