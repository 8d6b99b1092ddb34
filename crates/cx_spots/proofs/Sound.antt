-- A token that is spelled `>>` is a punctuator.
use Rattle.std.proofs.Common.{◌≡◌, ◌≢◌, ℕ, Bool, true, false, ◌&&◌, ◌||◌, not, List, [], ◌∷◌, ◌++◌, codes, refl, sym, ap, ◌∙◌, subst, IsTrue, true≢false, inl, inr, arith}
use Rattle.std.specs.Str.{bytes_eq}
use Rattle.std.specs.List.{list_all}
use Rattle.std.proofs.lemmas.Bool.{cases_Bool, and_parts}
use Rattle.std.proofs.lemmas.Slice.Eq.{bytes_eq-Decides}
use Rattle.cx_lexer.specs.declared.token.TokenKind.{TokenKind}
use Rattle.cx_lexer.specs.declared.token.TokenKind.TheVariants as kind
use Rattle.cx_lexer.specs.Characters.{is_digit}
use Rattle.cx_lexer.specs.Division.{AreSpelled, IsSpelled}
use Rattle.cx_lexer.specs.Literals.{is_literal, digits_of, is_hexadecimal, suffix_of, is_suffix}
use Rattle.cx_lexer.specs.Tokens.{TokenTree, text_of, is_name, is_word, is_punctuator, is_identifier}
use Rattle.cx_lexer.specs.Words.{has_word, reserved_words, used_words, unused_words, alternative_tokens, punctuators, three_characters, two_characters, one_character}
use Rattle.cx_grammar.specs.Pieces.{is_double}
use Rattle.cx_grammar.specs.Words.{is_punct_kind}
use Rattle.cx_grammar.specs.Laws.{is_sound}

first_or : ℕ → List ℕ → ℕ
first_or d [] = d
first_or d (c ∷ cs) = c

no_word : has_word reserved_words (codes ">>") ≡ false
unfolding has_word reserved_words used_words unused_words
no_word = refl

a_punctuator : (has_word punctuators (codes ">>") || has_word alternative_tokens (codes ">>")) ≡ true
unfolding has_word punctuators three_characters two_characters one_character alternative_tokens
a_punctuator = refl

no_literal : is_literal (codes ">>") ≡ false
unfolding is_literal digits_of is_hexadecimal suffix_of is_suffix is_digit
no_literal = refl

no_such_word : (piece : List ℕ) → text_of piece ≡ codes ">>" → is_word piece ≡ true → ⊥
unfolding is_word
no_such_word piece e is = true≢false (sym is ∙ (ap (λ (t : List ℕ). has_word reserved_words t) e ∙ no_word))

no_such_name : (piece : List ℕ) → text_of piece ≡ codes ">>" → is_name piece ≡ true → ⊥
unfolding is_name is_punctuator
no_such_name piece e is =
    let none = (and_parts (is_identifier piece && not (is_word piece)) (not (is_punctuator piece)) is).1 in
    let some : is_punctuator piece ≡ true = ap (λ (t : List ℕ). has_word punctuators t || has_word alternative_tokens t) e ∙ a_punctuator in
    true≢false (sym (rw some at none))

no_same : (a b : ℕ) → a ≡ 34 → b ≡ 62 → a ≡ b → ⊥
no_same a b p q e = absurd (omega (arith, p, q, e))

no_such_string : (piece others : List ℕ) → text_of piece ≡ codes ">>" → piece ≡ 34 ∷ others → ⊥
unfolding first_or lib.Utf8.encode
no_such_string piece others e is =
    let begins : text_of (34 ∷ others) ≡ codes ">>" = ap (λ (p : List ℕ). text_of p) (sym is) ∙ e in
    no_same _ _ refl refl (ap (λ (t : List ℕ). first_or 0 t) begins)

by_kind : (k : TokenKind) (t : TokenTree) → t.kind ≡ k → t.text ≡ codes ">>" → IsSpelled t → is_punct_kind k ≡ true
by_kind kind.Punct t is e s = refl
by_kind kind.End t is e s = let f : [] ≡ codes ">>" = sym (s.bare is) ∙ e in absurd cc
by_kind kind.Int t is e s = absurd (true≢false (sym (s.typed is).0 ∙ (ap (λ (x : List ℕ). is_literal x) e ∙ no_literal)))
by_kind kind.Word t is e s =
    let spelled = s.spelling (rw is (λ same. absurd cc)) in
    absurd (no_such_word spelled.0 (sym spelled.1 ∙ e) (rw is at spelled.2))
by_kind kind.Name t is e s =
    let spelled = s.spelling (rw is (λ same. absurd cc)) in
    absurd (no_such_name spelled.0 (sym spelled.1 ∙ e) (rw is at spelled.2))
by_kind kind.Str t is e s =
    let spelled = s.spelling (rw is (λ same. absurd cc)) in
    let string = rw is at spelled.2 in
    absurd (no_such_string spelled.0 _ (sym spelled.1 ∙ e) string.2)

sound : (t : TokenTree) → IsSpelled t → is_sound t ≡ true
unfolding is_double
sound t s =
    elim (cases_Bool (is_double t)) [
      | inl d ↦ rw (d, by_kind t.kind t refl ((bytes_eq-Decides t.text (codes ">>")).0 d) s) refl
      | inr d ↦ rw d refl
    ]

pub all_sound : (ts : List TokenTree) → AreSpelled ts → list_all is_sound ts ≡ true
all_sound [] s = refl
all_sound (t ∷ ts) s = rw (sound t s.0, all_sound ts s.1) refl
