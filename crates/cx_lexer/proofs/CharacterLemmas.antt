-- The characters at the front of a text.
use Rattle.std.proofs.Common.{◌≡◌, ℕ, ◌++◌, true, eqb, inl, inr, List, [], ◌∷◌, length, Option, Some, None, refl, sym, ap, ◌∙◌, arith}
use Rattle.std.specs.Prelude.{is_some, MatchOption, IsUtf8, encode_utf8_all}
use Rattle.std.specs.Str.{chars}
use Rattle.std.specs.Str.Pattern.{FindsTextPrefix, LacksTextAt, StripsPrefix}
use Rattle.std.specs.Option.{option_map}
use denote.Ref.{Bor}
use Rattle.std.proofs.lemmas.Str.{chars-nil, chars-append, encodes-chars, encodes-append}
use Rattle.std.proofs.lemmas.Bool.{cases_Bool}
use Rattle.std.proofs.lemmas.Bool.Decides.{nat_tests}
use Rattle.cx_lexer.specs.Reading.{behind_word, starts_with_word}

pub chars_none : (bs : List ℕ) → length bs ≡ 0 → chars bs ≡ []
chars_none [] e = chars-nil
chars_none (b ∷ bs) e = absurd (omega arith)

pub behind_word_itself : (w r : List ℕ) → behind_word w (w ++ r) ≡ Some r
unfolding behind_word
behind_word_itself [] r = refl
behind_word_itself (c ∷ w) r = let same : eqb c c ≡ true = grind (arith, nat_tests) in rw (same, behind_word_itself w r) refl

pub behind_word_none : (w xs : List ℕ) → ((r : List ℕ) → xs ≡ w ++ r → ⊥) → behind_word w xs ≡ None
unfolding behind_word
behind_word_none [] xs lacks = absurd (lacks xs refl)
behind_word_none (d ∷ w) [] lacks = refl
behind_word_none (d ∷ w) (c ∷ cs) lacks =
    elim (cases_Bool (eqb d c)) [
      | inl same ↦ (
          let e : d ≡ c = grind (arith, nat_tests) in
          rw (same, behind_word_none w cs (λ r is. lacks r (ap (λ (x : ℕ). x ∷ cs) (sym e) ∙ ap (λ (x : List ℕ). d ∷ x) is))) refl)
      | inr other ↦ rw other refl
    ]

-- what `strip_prefix` answers
pub behind_word_strips : (word text : List ℕ) (o : Option (Bor (List ℕ))) → IsUtf8 word → IsUtf8 text
    → MatchOption o (LacksTextAt word text 0) (λ x. StripsPrefix (FindsTextPrefix word) text x.now)
    → option_map (λ rest. chars rest.now) o ≡ behind_word (chars word) (chars text)
behind_word_strips word text None u v lacks =
    sym (behind_word_none (chars word) (chars text) (λ r e. lacks (encode_utf8_all r) (sym (encodes-chars text v) ∙ ap encode_utf8_all e ∙ encodes-append (chars word) r ∙ ap (λ (x : List ℕ). x ++ encode_utf8_all r) (encodes-chars word u))))
behind_word_strips word text (Some x) u v strips =
    let parts : text ≡ word ++ x.now = strips.1.1 ∙ ap (λ (y : List ℕ). word ++ y) (sym strips.2) in
    sym (ap (behind_word (chars word)) (ap chars parts ∙ chars-append word x.now u) ∙ behind_word_itself (chars word) (chars x.now))

is_some-map : {X Y : Type 0} (f : X → Y) (o : Option X) → is_some (option_map f o) ≡ is_some o
is_some-map f None = refl
is_some-map f (Some x) = refl

pub starts_when : (word text : List ℕ) (o : Option (Bor (List ℕ))) → option_map (λ rest. chars rest.now) o ≡ behind_word word text → is_some o ≡ starts_with_word word text
unfolding starts_with_word
starts_when word text o e = sym (is_some-map (λ rest. chars rest.now) o) ∙ ap is_some e
