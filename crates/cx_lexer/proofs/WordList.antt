-- Looking a text up in a list of words.
use Rattle.std.proofs.Common.{◌≡◌, ℕ, inl, inr, Bool, false, eqb, List, [], ◌∷◌, length, map, refl, sym, ap, ◌∙◌}
use Rattle.std.specs.Prelude.{filter, bytes_eq}
use Rattle.std.specs.List.{list_any}
use denote.Ref.{Bor}
use Rattle.std.proofs.lemmas.Bool.{eq-eqb, both_ways, cases_Bool, false_from_ne_true}
use Rattle.std.proofs.lemmas.Slice.Eq.{bytes_eq-Decides}
use Rattle.cx_lexer.specs.Words.{has_word}

list_any-map : {X Y : Type 0} (p : Y → Bool) (f : X → Y) (xs : List X) → list_any p (map f xs) ≡ list_any (λ x. p (f x)) xs
list_any-map p f [] = refl
list_any-map p f (x ∷ xs) = rw (list_any-map p f xs) refl

-- a word of another length is another word
bytes_eq-length : (text word : List ℕ) → eqb (length word) (length text) ≡ false → bytes_eq text word ≡ false
bytes_eq-length text word e = false_from_ne_true (bytes_eq text word) (λ t. both_ways (eqb (length word) (length text)) e (eq-eqb (length word) (length text) (sym (ap length ((bytes_eq-Decides text word).0 t)))))

has_word-filter : (words : List (List ℕ)) (text : List ℕ) → list_any (λ word. bytes_eq text word) (filter (λ word. eqb (length word) (length text)) words) ≡ list_any (λ word. bytes_eq text word) words
has_word-filter [] text = refl
has_word-filter (w ∷ ws) text =
    elim (cases_Bool (eqb (length w) (length text))) [
      | inl is_so ↦ rw (is_so, has_word-filter ws text) refl
      | inr is_not ↦ rw (is_not, bytes_eq-length text w is_not, has_word-filter ws text) refl
    ]

-- the words of the text's length are enough
pub has_word-by_length : (words : List (Bor (List ℕ))) (all : List (List ℕ)) (text : List ℕ) → map (λ word. word.now) words ≡ filter (λ word. eqb (length word) (length text)) all → list_any (λ word. bytes_eq text word.now) words ≡ has_word all text
unfolding has_word
has_word-by_length words all text are = sym (list_any-map (λ word. bytes_eq text word) (λ word. word.now) words) ∙ ap (list_any (λ word. bytes_eq text word)) are ∙ has_word-filter all text

-- all the words
pub has_word-listed : (words : List (Bor (List ℕ))) (all : List (List ℕ)) (text : List ℕ) → map (λ word. word.now) words ≡ all → list_any (λ word. bytes_eq text word.now) words ≡ has_word all text
unfolding has_word
has_word-listed words all text are = sym (list_any-map (λ word. bytes_eq text word) (λ word. word.now) words) ∙ ap (list_any (λ word. bytes_eq text word)) are
