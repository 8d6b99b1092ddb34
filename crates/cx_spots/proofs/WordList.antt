-- Looking a text up in a list of words.
use Rattle.std.proofs.Common.{◌≡◌, ℕ, Bool, List, [], ◌∷◌, map, refl, sym, true, false, ◌||◌, ◌&&◌}
use Rattle.std.specs.Prelude.{bytes_eq}
use Rattle.std.specs.List.{list_any}
use denote.Ref.{Bor}
use Rattle.cx_lexer.specs.Words.{has_word, unused_words}
use Rattle.cx_lexer.specs.Tokens.{TokenTree}
use Rattle.cx_lexer.specs.declared.token.TokenKind.TheVariants as kind
use Rattle.cx_grammar.specs.Words.{unused_punctuators, is_unsupported}

list_any-map : {X Y : Type 0} (p : Y → Bool) (f : X → Y) (xs : List X) → list_any p (map f xs) ≡ list_any (λ x. p (f x)) xs
list_any-map p f [] = refl
list_any-map p f (x ∷ xs) = rw (list_any-map p f xs) refl

pub has_word_listed : (words : List (Bor (List ℕ))) (text : List ℕ) → list_any (λ word. bytes_eq text word.now) words ≡ has_word (map (λ word. word.now) words) text
unfolding has_word
has_word_listed words text = sym (list_any-map (λ word. bytes_eq text word) (λ word. word.now) words)

pub unsupported_word : (t : TokenTree) (is : Bool) → t.kind ≡ kind.Word → is ≡ has_word unused_words t.text → is ≡ is_unsupported t
unfolding is_unsupported
unsupported_word t true e is = rw (e, ← is) refl
unsupported_word t false e is = rw (e, ← is) refl

pub unsupported_punctuator : (t : TokenTree) (is : Bool) → t.kind ≡ kind.Punct → is ≡ has_word unused_punctuators t.text → is ≡ is_unsupported t
unfolding is_unsupported
unsupported_punctuator t is e h = rw (e, ← h) refl

pub ruleset unsupported_lemmas = (unsupported_word, unsupported_punctuator)
