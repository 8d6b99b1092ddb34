-- What is left behind skipped text and behind tokens, case by case.
use Rattle.std.proofs.Common.{◌≡◌, ◌≢◌, ℕ, Bool, true, false, eqb, List, [], ◌∷◌, Option, Some, None, refl, sym}
use Rattle.std.proofs.lemmas.Bool.{ne_eqb}
use Rattle.cx_lexer.specs.Characters.{is_blank, is_digit, begins_name}
use Rattle.cx_lexer.specs.Reading.{behind_name, behind_line, behind_number, behind_string, behind_comment, behind_word, some_begins_with_digit, behind_blank, behind_marked_line, behind_line_comment, behind_block_comment, behind_directive, behind_skipped, behind_operator, behind_token, comment_mark}

pub line_number_digit : (o : Option (List ℕ)) (text rest : List ℕ) (c : ℕ) → Some text ≡ o → text ≡ c ∷ rest → is_digit c ≡ some_begins_with_digit o
line_number_digit o text rest c is begins = rw (sym is, begins) refl

pub line_number_end : (o : Option (List ℕ)) (text : List ℕ) → Some text ≡ o → text ≡ [] → false ≡ some_begins_with_digit o
line_number_end o text is ends = rw (sym is, ends) refl

pub line_number_none : (o : Option (List ℕ)) → None ≡ o → false ≡ some_begins_with_digit o
line_number_none o is = rw (sym is) refl

pub blank_here : (text rest : List ℕ) (c : ℕ) → text ≡ c ∷ rest → is_blank c ≡ true → behind_blank text ≡ Some rest
unfolding behind_blank
blank_here text rest c begins blank = rw (begins, blank) refl

pub blank_not : (text rest : List ℕ) (c : ℕ) → text ≡ c ∷ rest → is_blank c ≡ false → behind_blank text ≡ None
unfolding behind_blank
blank_not text rest c begins blank = rw (begins, blank) refl

pub blank_end : (text : List ℕ) → text ≡ [] → behind_blank text ≡ None
unfolding behind_blank
blank_end text ends = rw ends refl

pub skipped_blank : (b : Bool) (text rest : List ℕ) → Some rest ≡ behind_blank text → behind_skipped b text ≡ Some rest
unfolding behind_skipped
skipped_blank b text rest e = rw (sym e) refl

pub skipped_line_comment : (b : Bool) (text rest : List ℕ) → None ≡ behind_blank text → Some rest ≡ behind_line_comment text → behind_skipped b text ≡ Some rest
unfolding behind_skipped
skipped_line_comment b text rest e f = rw (sym e, sym f) refl

pub skipped_block_comment : (b : Bool) (text rest : List ℕ) → None ≡ behind_blank text → None ≡ behind_line_comment text → Some rest ≡ behind_block_comment text → behind_skipped b text ≡ Some rest
unfolding behind_skipped
skipped_block_comment b text rest e f g = rw (sym e, sym f, sym g) refl

pub skipped_directive : (b : Bool) (text : List ℕ) → None ≡ behind_blank text → None ≡ behind_line_comment text → None ≡ behind_block_comment text → behind_skipped b text ≡ behind_directive b text
unfolding behind_skipped
skipped_directive b text e f g = rw (sym e, sym f, sym g) refl

pub marked_line : (mark text rest : List ℕ) → Some rest ≡ behind_word mark text → behind_marked_line mark text ≡ Some (behind_line rest)
unfolding behind_marked_line
marked_line mark text rest e = rw (sym e) refl

pub marked_none : (mark text : List ℕ) → None ≡ behind_word mark text → behind_marked_line mark text ≡ None
unfolding behind_marked_line
marked_none mark text e = rw (sym e) refl

pub block_comment_begins : (text rest : List ℕ) → Some rest ≡ behind_word comment_mark text → behind_block_comment text ≡ behind_comment false rest
unfolding behind_block_comment
block_comment_begins text rest e = rw (sym e) refl

pub block_comment_none : (text : List ℕ) → None ≡ behind_word comment_mark text → behind_block_comment text ≡ None
unfolding behind_block_comment
block_comment_none text e = rw (sym e) refl

pub token_end : (text : List ℕ) → text ≡ [] → behind_token text ≡ None
unfolding behind_token
token_end text ends = rw ends refl

pub token_name : (text rest : List ℕ) (c : ℕ) → text ≡ c ∷ rest → begins_name c ≡ true → behind_token text ≡ Some (behind_name rest)
unfolding behind_token
token_name text rest c begins name = rw (begins, name) refl

pub token_number : (text rest : List ℕ) (c : ℕ) → text ≡ c ∷ rest → begins_name c ≡ false → is_digit c ≡ true → behind_token text ≡ Some (behind_number c rest)
unfolding behind_token
token_number text rest c begins name digit = rw (begins, name, digit) refl

pub token_string : (text rest : List ℕ) (c : ℕ) → text ≡ c ∷ rest → begins_name c ≡ false → is_digit c ≡ false → c ≡ 34 → behind_token text ≡ behind_string false rest
unfolding behind_token
token_string text rest c begins name digit quote =
    let is : eqb c 34 ≡ true = rw quote refl in
    rw (begins, name, digit, is) refl

pub token_operator : (text rest : List ℕ) (c : ℕ) → text ≡ c ∷ rest → begins_name c ≡ false → is_digit c ≡ false → c ≢ 34 → behind_token text ≡ behind_operator text
unfolding behind_token
token_operator text rest c begins name digit quote =
    let is : eqb c 34 ≡ false = ne_eqb c 34 quote in
    rw (begins, name, digit, is) refl
