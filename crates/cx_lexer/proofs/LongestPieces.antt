-- The longest piece at the front of a text is what the reader finds.
use Rattle.std.proofs.Common.{◌≡◌, ℕ, ◌≤◌, Bool, true, false, ◌&&◌, eqb, leb, inl, inr, List, [], ◌∷◌, ◌++◌, length, take, Option, Some, None, is_some, append_assoc, refl, sym, ap, ◌∙◌, subst, arith}
use Rattle.std.specs.Prelude.{codes, bytes_eq}
use Rattle.std.specs.Str.{chars}
use Rattle.std.specs.List.{list_all, list_any, concat, AllByRecursion}
use Rattle.std.proofs.lemmas.Bool.{cases_Bool, and_parts, or_cases, or_left, or_right, both_ways, false_from_ne_true, leb-true, eqb-true, eqb-false, ne_eqb}
use Rattle.std.proofs.Math.Seq.{take-append_seam}
use Rattle.std.proofs.lemmas.List.{length-append}
use Rattle.std.proofs.lemmas.Slice.Eq.{bytes_eq-Decides}
use Rattle.cx_lexer.specs.Characters.{is_digit, begins_name, continues_name, continues_number}
use Rattle.cx_lexer.specs.Words.{has_word, punctuators, three_characters, two_characters, one_character, alternative_tokens}
use Rattle.cx_lexer.specs.declared.token.TokenKind.TheVariants as kind
use Rattle.cx_lexer.specs.Tokens.{text_of, is_punctuator, all_continue, IsStringCharacter, IsSomeSpelling}
use Rattle.cx_lexer.specs.Division.{IsFront, IsLongest}
use Rattle.cx_lexer.specs.Reading.{behind_while, behind_name, behind_number, behind_string, behind_word, or_else, behind_first, behind_punctuator, starts_with_word, comment_mark, behind_operator, behind_token}
use Rattle.cx_lexer.proofs.CharacterLemmas.{behind_word_itself}
use Rattle.cx_lexer.proofs.Passing.{Passed, passed, while_longest, word_front}
use Rattle.cx_lexer.proofs.SkippedPieces.{head_same, tail_same, comment_is, begins_found}
use Rattle.cx_lexer.proofs.TokenKinds.{spelled_row}
use Rattle.cx_lexer.proofs.FirstCharacters.{IsStringEnd, Operator, Row, Identifier, Number, Str, Punctuator, row_of, empty_unspelled, name_no_digit, name_no_quote, digit_begins_none, digit_no_quote, operator_is, word_passes, word_bytes, quote_begins_no_name, quote_no_digit}

-- ---- numbers

pub record NumberParts (before : ℕ) (text : List ℕ) : Type 0 where
  pub front : List ℕ
  pub is : text ≡ front ++ behind_number before text
  pub all : all_continue before front ≡ true

number_parts : (before : ℕ) (text : List ℕ) → NumberParts before text
unfolding behind_number
number_parts before [] = record { front = []; is = refl; all = refl }
number_parts before (c ∷ cs) =
    let r : NumberParts c cs = number_parts c cs in
    elim (cases_Bool (continues_number before c)) [
      | inl on ↦ record { front = c ∷ r.front; is = rw on (ap (λ (x : List ℕ). c ∷ x) r.is); all = rw on r.all }
      | inr off ↦ record { front = []; is = rw off refl; all = refl }
    ]

number_less : (before : ℕ) (text : List ℕ) → length (behind_number before text) ≤ length text
number_less before text = let r = number_parts before text in omega (arith, ap length r.is, length-append r.front (behind_number before text))

number_longest : (before : ℕ) (front rest : List ℕ) → all_continue before front ≡ true → length (behind_number before (front ++ rest)) ≤ length rest
unfolding behind_number
number_longest before [] rest all = number_less before rest
number_longest before (c ∷ cs) rest all =
    let parts = and_parts (continues_number before c) (all_continue c cs) all in
    rw parts.0 (number_longest c cs rest parts.1)

-- ---- strings

-- the backslash that stands before what is left, if one does
abbrev backslash_before : Bool → List ℕ → List ℕ
backslash_before true text = 92 ∷ text
backslash_before false text = text

pub record StringParts (text rest : List ℕ) : Type 0 where
  pub characters : List (List ℕ)
  pub are : AllByRecursion IsStringCharacter characters
  pub is : text ≡ concat characters ++ (codes "\"" ++ rest)

string_more : (piece text rest : List ℕ) → IsStringCharacter piece → StringParts text rest → StringParts (piece ++ text) rest
string_more piece text rest is k = record {
  characters = piece ∷ k.characters;
  are = (is, k.are);
  is = ap (λ (x : List ℕ). piece ++ x) k.is ∙ sym (append_assoc piece (concat k.characters) (codes "\"" ++ rest));
}

string_at : (c : ℕ) (cs rest : List ℕ) → eqb c 10 ≡ false → eqb c 34 ≡ false → StringParts (backslash_before (eqb c 92) cs) rest → StringParts (c ∷ cs) rest
string_at c cs rest newline quote k =
    elim (cases_Bool (eqb c 92)) [
      | inl backslash ↦ (
          let f = rw backslash at k in
          let g : StringParts (92 ∷ cs) rest = f in
          subst (λ (x : ℕ). StringParts (x ∷ cs) rest) (sym (eqb-true c 92 backslash)) g)
      | inr other ↦ (
          let f = rw other at k in
          let g : StringParts cs rest = f in
          string_more (c ∷ []) cs rest (inl (c, refl, eqb-false c 34 quote, eqb-false c 92 other, eqb-false c 10 newline)) g)
    ]

-- The text behind the first quotation mark is a string's rest where the reader says, and a backslash that was read is
-- the first character.
string_parts : (escaped : Bool) (text rest : List ℕ) → behind_string escaped text ≡ Some rest → StringParts (backslash_before escaped text) rest
unfolding behind_string
string_parts escaped [] rest e = absurd cc
string_parts true (c ∷ cs) rest e =
    elim (cases_Bool (eqb c 10)) [
      | inl newline ↦ (let f = rw newline at e in let g : None ≡ Some rest = f in absurd cc)
      | inr other ↦ (
          let f = rw other at e in
          string_more (codes "\\" ++ c ∷ []) cs rest (inr (c, refl, eqb-false c 10 other)) (string_parts false cs rest f))
    ]
string_parts false (c ∷ cs) rest e =
    elim (cases_Bool (eqb c 10)) [
      | inl newline ↦ (let f = rw newline at e in let g : None ≡ Some rest = f in absurd cc)
      | inr other ↦ elim (cases_Bool (eqb c 34)) [
        | inl quote ↦ (
            let f = rw (other, quote) at e in
            let g : Some cs ≡ Some rest = f in
            let h : cs ≡ rest = cc in
            record { characters = []; are = tt; is = ap (λ (x : ℕ). x ∷ cs) (eqb-true c 34 quote) ∙ ap (λ (x : List ℕ). 34 ∷ x) h })
        | inr unclosed ↦ (
            let f = rw (other, unclosed) at e in
            string_at c cs rest other unclosed (string_parts (eqb c 92) cs rest f))
      ]
    ]

character_again : (piece text rest : List ℕ) → IsStringCharacter piece → behind_string false text ≡ Some rest → behind_string false (piece ++ text) ≡ Some rest
unfolding behind_string
character_again piece text rest (inl plain) e =
    ap (λ (x : List ℕ). behind_string false (x ++ text)) plain.1 ∙ rw (ne_eqb plain.0 10 plain.4, ne_eqb plain.0 34 plain.2, ne_eqb plain.0 92 plain.3) e
character_again piece text rest (inr escape) e = ap (λ (x : List ℕ). behind_string false (x ++ text)) escape.1 ∙ rw (ne_eqb escape.0 10 escape.2) e

string_closed : (rest : List ℕ) → behind_string false (codes "\"" ++ rest) ≡ Some rest
unfolding behind_string
string_closed rest = refl

characters_again : (characters : List (List ℕ)) (rest : List ℕ) → AllByRecursion IsStringCharacter characters → behind_string false (concat characters ++ (codes "\"" ++ rest)) ≡ Some rest
characters_again [] rest are = string_closed rest
characters_again (piece ∷ pieces) rest are =
    ap (behind_string false) (append_assoc piece (concat pieces) (codes "\"" ++ rest)) ∙ character_again piece (concat pieces ++ (codes "\"" ++ rest)) rest are.0 (characters_again pieces rest are.1)

string_again : (text rest : List ℕ) → IsStringEnd text → behind_string false (text ++ rest) ≡ Some rest
string_again text rest end =
    ap (λ (x : List ℕ). behind_string false (x ++ rest)) end.2 ∙ ap (behind_string false) (append_assoc (concat end.0) (codes "\"") rest) ∙ characters_again end.0 rest end.1

-- ---- punctuators

-- each word is as long as those behind it, or longer
abbrev is_descending : List (List ℕ) → Bool
is_descending [] = true
is_descending (w ∷ ws) = list_all (λ v. leb (length v) (length w)) ws && is_descending ws

-- the characters of each word are its bytes
abbrev are_plain : List (List ℕ) → Bool
are_plain words = list_all (λ w. bytes_eq (chars w) w) words

pub record Best (words : List (List ℕ)) (text rest : List ℕ) : Type 0 where
  pub word : List ℕ
  pub is_one : has_word words word ≡ true
  pub is : text ≡ word ++ rest
  pub longest : (other left : List ℕ) → has_word words other ≡ true → text ≡ other ++ left → length rest ≤ length left

word_itself : (w text left : List ℕ) → text ≡ w ++ left → behind_word w text ≡ Some left
word_itself w text left e = ap (behind_word w) e ∙ behind_word_itself w left

bytes_same : (w : List ℕ) → bytes_eq w w ≡ true
bytes_same w = (bytes_eq-Decides w w).1 refl

-- a word that is as long as the others leaves no more behind than they do
no_shorter : (w : List ℕ) (ws : List (List ℕ)) (text rest other left : List ℕ) → list_all (λ v. leb (length v) (length w)) ws ≡ true → text ≡ w ++ rest → has_word (w ∷ ws) other ≡ true → text ≡ other ++ left → length rest ≤ length left
unfolding has_word
no_shorter w ws text rest other left order is one parts =
    elim (or_cases (bytes_eq other w) (list_any (λ v. bytes_eq other v) ws) one) [
      | inl same ↦ omega (arith, ap length is, ap length parts, length-append w rest, length-append other left, ap length ((bytes_eq-Decides other w).0 same))
      | inr more ↦ omega (arith, ap length is, ap length parts, length-append w rest, length-append other left, leb-true (length other) (length w) (word_passes (λ v. leb (length v) (length w)) ws other order more))
    ]

best_here : (w : List ℕ) (ws : List (List ℕ)) (text rest : List ℕ) → chars w ≡ w → list_all (λ v. leb (length v) (length w)) ws ≡ true → behind_word (chars w) text ≡ Some rest → Best (w ∷ ws) text rest
unfolding has_word
best_here w ws text rest is_w order found =
    let is : text ≡ w ++ rest = word_front (chars w) text rest found ∙ ap (λ (y : List ℕ). y ++ rest) is_w in
    record {
      word = w;
      is_one = or_left (bytes_eq w w) (list_any (λ v. bytes_eq w v) ws) (bytes_same w);
      is = is;
      longest = λ other left one parts. no_shorter w ws text rest other left order is one parts;
    }

-- a word that is not there is no front
not_front : (w text other left : List ℕ) → chars w ≡ w → behind_word (chars w) text ≡ None → bytes_eq other w ≡ true → text ≡ other ++ left → ⊥
not_front w text other left is_w none same parts =
    let is : other ≡ w = (bytes_eq-Decides other w).0 same in
    let e : Some left ≡ None = sym (word_itself w text left (parts ∙ ap (λ (y : List ℕ). y ++ left) is)) ∙ ap (λ (y : List ℕ). behind_word y text) (sym is_w) ∙ none in
    cc

best_later : (w : List ℕ) (ws : List (List ℕ)) (text rest : List ℕ) → chars w ≡ w → behind_word (chars w) text ≡ None → Best ws text rest → Best (w ∷ ws) text rest
unfolding has_word
best_later w ws text rest is_w none b = record {
  word = b.word;
  is_one = or_right (bytes_eq b.word w) (list_any (λ v. bytes_eq b.word v) ws) b.is_one;
  is = b.is;
  longest = λ other left one parts. elim (or_cases (bytes_eq other w) (list_any (λ v. bytes_eq other v) ws) one) [
    | inl same ↦ absurd (not_front w text other left is_w none same parts)
    | inr more ↦ b.longest other left more parts
  ];
}

-- the first of the words that is found is the longest
best_of : (words : List (List ℕ)) (text rest : List ℕ) → are_plain words ≡ true → is_descending words ≡ true → behind_first words text ≡ Some rest → Best words text rest
best_of [] text rest plain descending e = absurd cc
best_of (w ∷ ws) text rest plain descending e =
    let plains = and_parts (bytes_eq (chars w) w) (are_plain ws) plain in
    let orders = and_parts (list_all (λ v. leb (length v) (length w)) ws) (is_descending ws) descending in
    here (behind_word (chars w) text) refl ((bytes_eq-Decides (chars w) w).0 plains.0) orders.0 (best_of ws text rest plains.1 orders.1) e
  where
    here : (o : Option (List ℕ)) → behind_word (chars w) text ≡ o → chars w ≡ w → list_all (λ v. leb (length v) (length w)) ws ≡ true → (behind_first ws text ≡ Some rest → Best ws text rest) → or_else o (behind_first ws text) ≡ Some rest → Best (w ∷ ws) text rest
    here (Some x) found is_w order later f = best_here w ws text rest is_w order (found ∙ f)
    here None found is_w order later f = best_later w ws text rest is_w found (later f)

none_parts : (o other : Option (List ℕ)) → or_else o other ≡ None → (o ≡ None) × (other ≡ None)
none_parts None other e = (refl, e)
none_parts (Some x) other e = absurd cc

none_of : (words : List (List ℕ)) (text : List ℕ) → are_plain words ≡ true → behind_first words text ≡ None → (other left : List ℕ) → has_word words other ≡ true → text ≡ other ++ left → ⊥
unfolding has_word
none_of [] text plain none other left one parts = absurd cc
none_of (w ∷ ws) text plain none other left one parts =
    let plains = and_parts (bytes_eq (chars w) w) (are_plain ws) plain in
    let nones = none_parts (behind_word (chars w) text) (behind_first ws text) none in
    elim (or_cases (bytes_eq other w) (list_any (λ v. bytes_eq other v) ws) one) [
      | inl same ↦ not_front w text other left ((bytes_eq-Decides (chars w) w).0 plains.0) nones.0 same parts
      | inr more ↦ none_of ws text plains.1 nones.1 other left more parts
    ]

punctuators_are_plain : are_plain punctuators ≡ true
unfolding punctuators three_characters two_characters one_character chars
punctuators_are_plain = refl

punctuators_descend : is_descending punctuators ≡ true
unfolding punctuators three_characters two_characters one_character
punctuators_descend = refl

-- ---- the longest piece

pub record Longest (text rest : List ℕ) : Type 0 where
  pub piece : List ℕ
  pub parts : text ≡ piece ++ rest
  pub is : IsLongest piece text

longest_from : (c : ℕ) (cs piece rest : List ℕ) → c ∷ cs ≡ piece ++ rest → IsSomeSpelling piece → ¬ (IsFront (codes "/*") (c ∷ cs)) → ((other left : List ℕ) → IsSomeSpelling (c ∷ other) → cs ≡ other ++ left → length rest ≤ length left) → Longest (c ∷ cs) rest
longest_from c cs piece rest parts spelled no_comment less =
    record { piece = piece; parts = parts; is = record { front = (rest, parts); spelled = spelled; longest = longest; no_comment = no_comment } }
  where
    longest : (other : List ℕ) → IsFront other (c ∷ cs) → IsSomeSpelling other → length other ≤ length piece
    longest [] f s = omega arith
    longest (d ∷ o) f s =
        let le : length rest ≤ length f.0 = less o f.0 (subst (λ (x : ℕ). IsSomeSpelling (x ∷ o)) (sym (head_same c d cs (o ++ f.0) f.1)) s) (tail_same c d cs (o ++ f.0) f.1) in
        omega (arith, le, ap length parts, ap length f.1, length-append piece rest, length-append o f.0)

slash : Operator 47
unfolding is_digit
slash = operator_is 47 refl

no_comment_at : (c : ℕ) (cs : List ℕ) → (Operator c → ⊥) → ¬ (IsFront (codes "/*") (c ∷ cs))
no_comment_at c cs none f = none (subst Operator (sym (head_same c 47 cs (42 ∷ f.0) f.1)) slash)

name_longest : (c : ℕ) (cs : List ℕ) → begins_name c ≡ true → Longest (c ∷ cs) (behind_name cs)
unfolding behind_name
name_longest c cs name =
    let p : Passed continues_name cs = passed continues_name cs in
    let no_operator : Operator c → ⊥ = λ o. both_ways (begins_name c) o.no_name name in
    longest_from c cs (c ∷ p.front) (behind_while continues_name cs) (ap (λ (x : List ℕ). c ∷ x) p.is)
    (spelled_row c p.front (Identifier name p.all))
    (no_comment_at c cs no_operator)
    (λ other left spelled parts. less other left parts (row_of c other spelled.0 spelled.1))
  where
    less : (other left : List ℕ) → cs ≡ other ++ left → Row c other → length (behind_while continues_name cs) ≤ length left
    less other left parts (Identifier b all) = while_longest continues_name cs other left parts all
    less other left parts (Number digit all) = absurd (both_ways (is_digit c) (name_no_digit c name) digit)
    less other left parts (Str quote all) = absurd (both_ways (eqb c 34) (name_no_quote c name) quote)
    less other left parts (Punctuator operator one) = absurd (both_ways (begins_name c) operator.no_name name)

digit_longest : (c : ℕ) (cs : List ℕ) → is_digit c ≡ true → Longest (c ∷ cs) (behind_number c cs)
digit_longest c cs digit =
    let p : NumberParts c cs = number_parts c cs in
    let no_operator : Operator c → ⊥ = λ o. both_ways (is_digit c) o.no_digit digit in
    longest_from c cs (c ∷ p.front) (behind_number c cs) (ap (λ (x : List ℕ). c ∷ x) p.is)
    (spelled_row c p.front (Number digit p.all))
    (no_comment_at c cs no_operator)
    (λ other left spelled parts. less other left parts (row_of c other spelled.0 spelled.1))
  where
    less : (other left : List ℕ) → cs ≡ other ++ left → Row c other → length (behind_number c cs) ≤ length left
    less other left parts (Identifier name all) = absurd (both_ways (begins_name c) (digit_begins_none c digit) name)
    less other left parts (Number b all) = subst (λ (x : List ℕ). length (behind_number c x) ≤ length left) (sym parts) (number_longest c other left all)
    less other left parts (Str quote all) = absurd (both_ways (eqb c 34) (digit_no_quote c digit) quote)
    less other left parts (Punctuator operator one) = absurd (both_ways (is_digit c) operator.no_digit digit)

quote_longest : (c : ℕ) (cs rest : List ℕ) → begins_name c ≡ false → is_digit c ≡ false → eqb c 34 ≡ true → behind_string false cs ≡ Some rest → Longest (c ∷ cs) rest
quote_longest c cs rest no_name no_digit quote e =
    let p : StringParts cs rest = string_parts false cs rest e in
    let front : List ℕ = concat p.characters ++ codes "\"" in
    let no_operator : Operator c → ⊥ = λ o. both_ways (eqb c 34) o.no_quote quote in
    longest_from c cs (c ∷ front) rest (ap (λ (x : List ℕ). c ∷ x) (p.is ∙ sym (append_assoc (concat p.characters) (codes "\"") rest)))
    (spelled_row c front (Str quote (p.characters, p.are, refl)))
    (no_comment_at c cs no_operator)
    (λ other left spelled parts. less other left parts (row_of c other spelled.0 spelled.1))
  where
    less : (other left : List ℕ) → cs ≡ other ++ left → Row c other → length rest ≤ length left
    less other left parts (Identifier name all) = absurd (both_ways (begins_name c) no_name name)
    less other left parts (Number digit all) = absurd (both_ways (is_digit c) no_digit digit)
    less other left parts (Str b all) =
        let f : Some rest ≡ Some left = sym e ∙ ap (behind_string false) parts ∙ string_again other left all in
        let same : rest ≡ left = cc in
        omega (arith, ap length same)
    less other left parts (Punctuator operator one) = absurd (both_ways (eqb c 34) operator.no_quote quote)

starts_with_comment : (text : List ℕ) → IsFront (codes "/*") text → starts_with_word comment_mark text ≡ true
unfolding starts_with_word
starts_with_comment text f = ap is_some (ap (λ (m : List ℕ). behind_word m text) comment_is ∙ word_itself (codes "/*") text f.0 f.1)

no_comment_from : (text : List ℕ) → starts_with_word comment_mark text ≡ false → ¬ (IsFront (codes "/*") text)
no_comment_from text off f = both_ways (starts_with_word comment_mark text) off (starts_with_comment text f)

pub record OperatorParts (text rest : List ℕ) : Type 0 where
  pub no_comment : starts_with_word comment_mark text ≡ false
  pub first : behind_first punctuators text ≡ Some rest

operator_parts : (text rest : List ℕ) → behind_operator text ≡ Some rest → OperatorParts text rest
unfolding behind_operator behind_punctuator
operator_parts text rest e =
    elim (cases_Bool (starts_with_word comment_mark text)) [
      | inl on ↦ (let f = rw on at e in let g : None ≡ Some rest = f in absurd cc)
      | inr off ↦ record { no_comment = off; first = rw off at e }
    ]

operator_longest : (c : ℕ) (cs rest : List ℕ) → begins_name c ≡ false → is_digit c ≡ false → eqb c 34 ≡ false → behind_operator (c ∷ cs) ≡ Some rest → Longest (c ∷ cs) rest
unfolding is_punctuator
operator_longest c cs rest no_name no_digit no_quote e =
    let o : OperatorParts (c ∷ cs) rest = operator_parts (c ∷ cs) rest e in
    let b : Best punctuators (c ∷ cs) rest = best_of punctuators (c ∷ cs) rest punctuators_are_plain punctuators_descend o.first in
    longest_from c cs b.word rest b.is
    (kind.Punct, or_left (has_word punctuators (text_of b.word)) (has_word alternative_tokens (text_of b.word)) (ap (has_word punctuators) (word_bytes b.word b.is_one) ∙ b.is_one))
    (no_comment_from (c ∷ cs) o.no_comment)
    (λ other left spelled parts. less b other left parts (row_of c other spelled.0 spelled.1))
  where
    less : Best punctuators (c ∷ cs) rest → (other left : List ℕ) → cs ≡ other ++ left → Row c other → length rest ≤ length left
    less b other left parts (Identifier name all) = absurd (both_ways (begins_name c) no_name name)
    less b other left parts (Number digit all) = absurd (both_ways (is_digit c) no_digit digit)
    less b other left parts (Str quote all) = absurd (both_ways (eqb c 34) no_quote quote)
    less b other left parts (Punctuator operator one) = b.longest (c ∷ other) left one (ap (λ (x : List ℕ). c ∷ x) parts)

pub token_found : (c : ℕ) (cs rest : List ℕ) → behind_token (c ∷ cs) ≡ Some rest → Longest (c ∷ cs) rest
unfolding behind_token
token_found c cs rest e =
    elim (cases_Bool (begins_name c)) [
      | inl name ↦ (
          let f = rw name at e in
          let g : Some (behind_name cs) ≡ Some rest = f in
          let h : behind_name cs ≡ rest = cc in
          subst (Longest (c ∷ cs)) h (name_longest c cs name))
      | inr no_name ↦ elim (cases_Bool (is_digit c)) [
        | inl digit ↦ (
            let f = rw (no_name, digit) at e in
            let g : Some (behind_number c cs) ≡ Some rest = f in
            let h : behind_number c cs ≡ rest = cc in
            subst (Longest (c ∷ cs)) h (digit_longest c cs digit))
        | inr no_digit ↦ elim (cases_Bool (eqb c 34)) [
          | inl quote ↦ quote_longest c cs rest no_name no_digit quote (rw (no_name, no_digit, quote) at e)
          | inr other ↦ operator_longest c cs rest no_name no_digit other (rw (no_name, no_digit, other) at e)
        ]
      ]
    ]

-- ---- where the reader finds no token, there is no piece

comment_front : (text : List ℕ) → starts_with_word comment_mark text ≡ true → IsFront (codes "/*") text
comment_front text on = subst (λ (m : List ℕ). IsFront m text) comment_is (begins_found comment_mark text on)

behind_row : (c : ℕ) (cs left : List ℕ) → Row c cs → ¬ (IsFront (codes "/*") (c ∷ (cs ++ left))) → behind_token (c ∷ (cs ++ left)) ≡ None → ⊥
unfolding behind_token behind_operator behind_punctuator
behind_row c cs left (Identifier name all) no_comment e = let f = rw name at e in let g : Some (behind_name (cs ++ left)) ≡ None = f in cc
behind_row c cs left (Number digit all) no_comment e = let f = rw (digit_begins_none c digit, digit) at e in let g : Some (behind_number c (cs ++ left)) ≡ None = f in cc
behind_row c cs left (Str quote all) no_comment e =
    let f = rw (quote_begins_no_name c quote, quote_no_digit c quote, quote) at e in
    let g : Some left ≡ None = sym (string_again cs left all) ∙ f in
    cc
behind_row c cs left (Punctuator operator one) no_comment e =
    let off : starts_with_word comment_mark (c ∷ (cs ++ left)) ≡ false = false_from_ne_true (starts_with_word comment_mark (c ∷ (cs ++ left))) (λ on. no_comment (comment_front (c ∷ (cs ++ left)) on)) in
    let f = rw (operator.no_name, operator.no_digit, operator.no_quote, off) at e in
    none_of punctuators (c ∷ (cs ++ left)) punctuators_are_plain f (c ∷ cs) left one refl

pub token_none : (text : List ℕ) → behind_token text ≡ None → (piece : List ℕ) → IsLongest piece text → ⊥
token_none text e [] l = absurd (empty_unspelled l.spelled.0 l.spelled.1)
token_none text e (c ∷ cs) l =
    behind_row c cs l.front.0 (row_of c cs l.spelled.0 l.spelled.1) (subst (λ (x : List ℕ). ¬ (IsFront (codes "/*") x)) l.front.1 l.no_comment) (ap behind_token (sym l.front.1) ∙ e)

-- ---- a text has one longest piece

pub same_front : (p q r s : List ℕ) → p ++ r ≡ q ++ s → length p ≡ length q → p ≡ q
same_front p q r s e same = sym (take-append_seam p r) ∙ ap (take (length p)) e ∙ ap (λ (n : ℕ). take n (q ++ s)) same ∙ take-append_seam q s

pub same_longest : (text p q : List ℕ) → IsLongest p text → IsLongest q text → p ≡ q
same_longest text p q l m =
    let le : length p ≤ length q = m.longest p l.front l.spelled in
    let ge : length q ≤ length p = l.longest q m.front m.spelled in
    same_front p q l.front.0 m.front.0 (sym l.front.1 ∙ m.front.1) (omega arith)

pub no_longest : (piece : List ℕ) → IsLongest piece [] → ⊥
no_longest [] l = absurd (empty_unspelled l.spelled.0 l.spelled.1)
no_longest (c ∷ cs) l = absurd (let e : [] ≡ c ∷ (cs ++ l.front.0) = l.front.1 in cc)
