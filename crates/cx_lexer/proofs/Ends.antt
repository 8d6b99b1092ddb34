-- What is left behind a piece is an end of the text, and what is left behind skipped text and tokens is a shorter one.
use Rattle.std.proofs.Common.{◌≡◌, ℕ, ◌<◌, Bool, false, not, ◌&&◌, eqb, inl, inr, List, [], ◌∷◌, ◌++◌, length, Option, Some, None, append_assoc, refl, sym, ap, ◌∙◌, subst, arith}
use Rattle.std.specs.Str.{chars}
use Rattle.std.proofs.lemmas.Bool.{cases_Bool}
use Rattle.std.proofs.lemmas.List.{length-append}
use Rattle.cx_lexer.specs.Characters.{is_blank, is_newline, is_digit, begins_name, continues_name, continues_number}
use Rattle.cx_lexer.specs.Words.{punctuators, three_characters, two_characters, one_character}
use Rattle.cx_lexer.specs.Reading.{behind_while, behind_name, behind_line, behind_number, behind_string, behind_comment, behind_word, or_else, and_then, behind_first, behind_punctuator, starts_with_word, behind_blank, behind_marked_line, behind_line_comment, behind_block_comment, behind_directive, behind_skipped, behind_operator, behind_token, comment_mark, line_comment_mark, hash_mark, is_directive, IsEndOf}

-- a shorter end
pub record IsBehind (rest text : List ℕ) : Type 0 where
  pub first : ℕ
  pub front : List ℕ
  pub is : text ≡ first ∷ (front ++ rest)

pub end_behind : (rest text : List ℕ) → IsBehind rest text → IsEndOf rest text
end_behind rest text b = (b.first ∷ b.front, b.is)

pub shorter_behind : (rest text : List ℕ) → IsBehind rest text → length rest < length text
shorter_behind rest text b = omega (arith, ap length b.is, length-append b.front rest)

more : (c : ℕ) (rest text : List ℕ) → IsEndOf rest text → IsEndOf rest (c ∷ text)
more c rest text e = (c ∷ e.0, ap (λ (x : List ℕ). c ∷ x) e.1)

begun : (c : ℕ) (rest text : List ℕ) → IsEndOf rest text → IsBehind rest (c ∷ text)
begun c rest text e = record { first = c; front = e.0; is = ap (λ (x : List ℕ). c ∷ x) e.1 }

more_behind : (c : ℕ) (rest text : List ℕ) → IsBehind rest text → IsBehind rest (c ∷ text)
more_behind c rest text b = record { first = c; front = b.first ∷ b.front; is = ap (λ (x : List ℕ). c ∷ x) b.is }

end_of_behind : (rest middle text : List ℕ) → IsEndOf rest middle → IsBehind middle text → IsBehind rest text
end_of_behind rest middle text e b = record { first = b.first; front = b.front ++ e.0; is = b.is ∙ ap (λ (x : List ℕ). b.first ∷ (b.front ++ x)) e.1 ∙ ap (λ (x : List ℕ). b.first ∷ x) (sym (append_assoc b.front e.0 rest)) }

while_end : (p : ℕ → Bool) (text : List ℕ) → IsEndOf (behind_while p text) text
while_end p [] = ([], refl)
while_end p (c ∷ cs) =
    elim (cases_Bool (p c)) [
      | inl on ↦ rw on (more c (behind_while p cs) cs (while_end p cs))
      | inr off ↦ rw off ([], refl)
    ]

name_end : (text : List ℕ) → IsEndOf (behind_name text) text
unfolding behind_name
name_end text = while_end continues_name text

line_end : (text : List ℕ) → IsEndOf (behind_line text) text
unfolding behind_line
line_end text = while_end (λ c. not (is_newline c)) text

number_end : (before : ℕ) (text : List ℕ) → IsEndOf (behind_number before text) text
unfolding behind_number
number_end before [] = ([], refl)
number_end before (c ∷ cs) =
    elim (cases_Bool (continues_number before c)) [
      | inl on ↦ rw on (more c (behind_number c cs) cs (number_end c cs))
      | inr off ↦ rw off ([], refl)
    ]

-- what an optional end is
AnEnd : List ℕ → Option (List ℕ) → Type 0
AnEnd text None = Unit {0}
AnEnd text (Some rest) = IsEndOf rest text

-- what an optional shorter end is
unfoldable pub Behind : List ℕ → Option (List ℕ) → Type 0
Behind text None = Unit {0}
Behind text (Some rest) = IsBehind rest text

some_more : (c : ℕ) (text : List ℕ) (o : Option (List ℕ)) → AnEnd text o → AnEnd (c ∷ text) o
unfolding AnEnd
some_more c text None e = tt
some_more c text (Some rest) e = more c rest text e

some_begun : (c : ℕ) (text : List ℕ) (o : Option (List ℕ)) → AnEnd text o → Behind (c ∷ text) o
unfolding AnEnd Behind
some_begun c text None e = tt
some_begun c text (Some rest) e = begun c rest text e

string_end : (escaped : Bool) (text : List ℕ) → AnEnd text (behind_string escaped text)
unfolding AnEnd behind_string
string_end escaped [] = tt
string_end escaped (c ∷ cs) =
    elim (cases_Bool (eqb c 10)) [
      | inl newline ↦ rw newline tt
      | inr other ↦ elim (cases_Bool (not escaped && eqb c 34)) [
        | inl closed ↦ rw (other, closed) (c ∷ [], refl)
        | inr unclosed ↦ rw (other, unclosed) (some_more c cs (behind_string (not escaped && eqb c 92) cs) (string_end (not escaped && eqb c 92) cs))
      ]
    ]

comment_end : (star : Bool) (text : List ℕ) → AnEnd text (behind_comment star text)
unfolding AnEnd behind_comment
comment_end star [] = tt
comment_end star (c ∷ cs) =
    elim (cases_Bool (star && eqb c 47)) [
      | inl closed ↦ rw closed (c ∷ [], refl)
      | inr unclosed ↦ rw unclosed (some_more c cs (behind_comment (eqb c 42) cs) (comment_end (eqb c 42) cs))
    ]

word_end : (word text : List ℕ) → AnEnd text (behind_word word text)
unfolding AnEnd behind_word
word_end [] text = ([], refl)
word_end (d ∷ w) [] = tt
word_end (d ∷ w) (c ∷ cs) =
    elim (cases_Bool (eqb d c)) [
      | inl same ↦ rw same (some_more c cs (behind_word w cs) (word_end w cs))
      | inr other ↦ rw other tt
    ]

word_behind : (d : ℕ) (word text : List ℕ) → Behind text (behind_word (d ∷ word) text)
unfolding Behind behind_word
word_behind d w [] = tt
word_behind d w (c ∷ cs) =
    elim (cases_Bool (eqb d c)) [
      | inl same ↦ rw same (some_begun c cs (behind_word w cs) (word_end w cs))
      | inr other ↦ rw other tt
    ]

-- a word has a character
IsWord : List ℕ → Type 0
IsWord word = (d : ℕ) × (w : List ℕ) × (word ≡ d ∷ w)

some_word : (word text : List ℕ) → IsWord word → Behind text (behind_word word text)
unfolding IsWord
some_word word text is = subst (λ (x : List ℕ). Behind text (behind_word x text)) (sym is.2) (word_behind is.0 is.1 text)

or_behind : (text : List ℕ) (o other : Option (List ℕ)) → Behind text o → Behind text other → Behind text (or_else o other)
or_behind text None other b c = c
or_behind text (Some rest) other b c = b

and_some : (text rest : List ℕ) (o : Option (List ℕ)) → IsBehind rest text → AnEnd rest o → Behind text o
unfolding Behind AnEnd
and_some text rest None b e = tt
and_some text rest (Some end) b e = end_of_behind end rest text e b

and_behind : (text : List ℕ) (o : Option (List ℕ)) (f : List ℕ → Option (List ℕ)) → Behind text o → ((rest : List ℕ) → AnEnd rest (f rest)) → Behind text (and_then o f)
unfolding Behind
and_behind text None f b e = tt
and_behind text (Some rest) f b e = and_some text rest (f rest) b (e rest)

IsListOfWords : List (List ℕ) → Type 0
IsListOfWords [] = Unit {0}
IsListOfWords (w ∷ ws) = IsWord (chars w) × IsListOfWords ws

first_behind : (words : List (List ℕ)) (text : List ℕ) → IsListOfWords words → Behind text (behind_first words text)
unfolding Behind IsListOfWords
first_behind [] text are = tt
first_behind (w ∷ ws) text are = or_behind text (behind_word (chars w) text) (behind_first ws text) (some_word (chars w) text are.0) (first_behind ws text are.1)

are_words : IsListOfWords punctuators
unfolding IsListOfWords IsWord punctuators three_characters two_characters one_character chars
are_words = ((46, 46 ∷ 46 ∷ [], refl), ((45, 62 ∷ 42 ∷ [], refl), ((60, 61 ∷ 62 ∷ [], refl), ((60, 60 ∷ 61 ∷ [], refl), ((62, 62 ∷ 61 ∷ [], refl), ((58, 58 ∷ [], refl), ((46, 42 ∷ [], refl), ((45, 62 ∷ [], refl), ((43, 61 ∷ [], refl), ((45, 61 ∷ [], refl), ((42, 61 ∷ [], refl), ((47, 61 ∷ [], refl), ((37, 61 ∷ [], refl), ((94, 61 ∷ [], refl), ((38, 61 ∷ [], refl), ((124, 61 ∷ [], refl), ((61, 61 ∷ [], refl), ((33, 61 ∷ [], refl), ((60, 61 ∷ [], refl), ((62, 61 ∷ [], refl), ((38, 38 ∷ [], refl), ((124, 124 ∷ [], refl), ((60, 60 ∷ [], refl), ((62, 62 ∷ [], refl), ((43, 43 ∷ [], refl), ((45, 45 ∷ [], refl), ((123, [], refl), ((125, [], refl), ((40, [], refl), ((41, [], refl), ((91, [], refl), ((93, [], refl), ((59, [], refl), ((58, [], refl), ((44, [], refl), ((46, [], refl), ((63, [], refl), ((126, [], refl), ((33, [], refl), ((43, [], refl), ((45, [], refl), ((42, [], refl), ((47, [], refl), ((37, [], refl), ((94, [], refl), ((38, [], refl), ((124, [], refl), ((61, [], refl), ((60, [], refl), ((62, [], refl), tt))))))))))))))))))))))))))))))))))))))))))))))))))

punctuator_behind : (text : List ℕ) → Behind text (behind_punctuator text)
unfolding behind_punctuator
punctuator_behind text = first_behind punctuators text are_words

line_comment_word : IsWord line_comment_mark
unfolding IsWord line_comment_mark chars
line_comment_word = (47, 47 ∷ [], refl)

comment_word : IsWord comment_mark
unfolding IsWord comment_mark chars
comment_word = (47, 42 ∷ [], refl)

hash_word : IsWord hash_mark
unfolding IsWord hash_mark chars
hash_word = (35, [], refl)

marked_behind : (mark text : List ℕ) → IsWord mark → Behind text (behind_marked_line mark text)
unfolding behind_marked_line AnEnd
marked_behind mark text is = and_behind text (behind_word mark text) (λ rest. Some (behind_line rest)) (some_word mark text is) line_end

blank_behind : (text : List ℕ) → Behind text (behind_blank text)
unfolding Behind behind_blank
blank_behind [] = tt
blank_behind (c ∷ cs) = elim (cases_Bool (is_blank c)) [ inl on ↦ rw on (begun c cs cs ([], refl)) | inr off ↦ rw off tt ]

directive_behind : (b : Bool) (text : List ℕ) → Behind text (behind_directive b text)
unfolding Behind behind_directive
directive_behind b text = elim (cases_Bool (b && is_directive text)) [ inl on ↦ rw on (marked_behind hash_mark text hash_word) | inr off ↦ rw off tt ]

line_comment_behind : (text : List ℕ) → Behind text (behind_line_comment text)
unfolding behind_line_comment
line_comment_behind text = marked_behind line_comment_mark text line_comment_word

block_comment_behind : (text : List ℕ) → Behind text (behind_block_comment text)
unfolding behind_block_comment
block_comment_behind text = and_behind text (behind_word comment_mark text) (behind_comment false) (some_word comment_mark text comment_word) (comment_end false)

pub skipped_behind : (b : Bool) (text : List ℕ) → Behind text (behind_skipped b text)
unfolding behind_skipped
skipped_behind b text =
    or_behind text _ _ (blank_behind text) (or_behind text _ _ (line_comment_behind text) (or_behind text _ _ (block_comment_behind text) (directive_behind b text)))

operator_behind : (text : List ℕ) → Behind text (behind_operator text)
unfolding Behind behind_operator
operator_behind text = elim (cases_Bool (starts_with_word comment_mark text)) [ inl on ↦ rw on tt | inr off ↦ rw off (punctuator_behind text) ]

pub token_behind : (text : List ℕ) → Behind text (behind_token text)
unfolding Behind behind_token
token_behind [] = tt
token_behind (c ∷ cs) =
    elim (cases_Bool (begins_name c)) [
      | inl name ↦ rw name (begun c (behind_name cs) cs (name_end cs))
      | inr no_name ↦ elim (cases_Bool (is_digit c)) [
        | inl digit ↦ rw (no_name, digit) (begun c (behind_number c cs) cs (number_end c cs))
        | inr no_digit ↦ elim (cases_Bool (eqb c 34)) [
          | inl quote ↦ rw (no_name, no_digit, quote) (some_begun c cs (behind_string false cs) (string_end false cs))
          | inr other ↦ rw (no_name, no_digit, other) (operator_behind (c ∷ cs))
        ]
      ]
    ]

-- the same for what was found
pub found_behind : (text rest : List ℕ) (o : Option (List ℕ)) → Behind text o → Some rest ≡ o → IsBehind rest text
unfolding Behind
found_behind text rest o b e = subst (Behind text) (sym e) b
