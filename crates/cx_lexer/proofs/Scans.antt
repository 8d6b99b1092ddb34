-- One step of a scan: at the character that a text begins with, or at its end.
use Rattle.std.proofs.Common.{◌≡◌, ◌≢◌, ℕ, Bool, true, false, not, ◌&&◌, eqb, List, [], ◌∷◌, Some, None, refl}
use Rattle.std.proofs.lemmas.Bool.{ne_eqb}
use Rattle.cx_lexer.specs.Characters.{continues_name, continues_number}
use Rattle.cx_lexer.specs.Reading.{behind_name, behind_line, behind_number, behind_string, behind_comment}

pub behind_name_on : (text rest : List ℕ) (c : ℕ) → text ≡ c ∷ rest → continues_name c ≡ true → behind_name text ≡ behind_name rest
unfolding behind_name
behind_name_on text rest c is on = rw (is, on) refl

pub behind_name_off : (text rest : List ℕ) (c : ℕ) → text ≡ c ∷ rest → continues_name c ≡ false → behind_name text ≡ text
unfolding behind_name
behind_name_off text rest c is off = rw (is, off) refl

pub behind_name_end : (text : List ℕ) → text ≡ [] → behind_name text ≡ text
unfolding behind_name
behind_name_end text is = rw is refl

pub behind_line_on : (text rest : List ℕ) (c : ℕ) → text ≡ c ∷ rest → c ≢ 10 → behind_line text ≡ behind_line rest
unfolding behind_line
behind_line_on text rest c is on = rw (is, ne_eqb c 10 on) refl

pub behind_line_off : (text rest : List ℕ) (c : ℕ) → text ≡ c ∷ rest → c ≡ 10 → behind_line text ≡ text
unfolding behind_line
behind_line_off text rest c is off = rw (is, off) refl

pub behind_line_end : (text : List ℕ) → text ≡ [] → behind_line text ≡ text
unfolding behind_line
behind_line_end text is = rw is refl

pub behind_number_on : (before : ℕ) (text rest : List ℕ) (c : ℕ) → text ≡ c ∷ rest → continues_number before c ≡ true → behind_number before text ≡ behind_number c rest
unfolding behind_number
behind_number_on before text rest c is on = rw (is, on) refl

pub behind_number_off : (before : ℕ) (text rest : List ℕ) (c : ℕ) → text ≡ c ∷ rest → continues_number before c ≡ false → behind_number before text ≡ text
unfolding behind_number
behind_number_off before text rest c is off = rw (is, off) refl

pub behind_number_end : (before : ℕ) (text : List ℕ) → text ≡ [] → behind_number before text ≡ text
unfolding behind_number
behind_number_end before text is = rw is refl

pub behind_string_newline : (escaped : Bool) (text rest : List ℕ) (c : ℕ) → text ≡ c ∷ rest → c ≡ 10 → behind_string escaped text ≡ None
unfolding behind_string
behind_string_newline escaped text rest c is newline = rw (is, newline) refl

pub behind_string_closed : (escaped : Bool) (text rest : List ℕ) (c : ℕ) → text ≡ c ∷ rest → c ≢ 10 → (not escaped && eqb c 34) ≡ true → behind_string escaped text ≡ Some rest
unfolding behind_string
behind_string_closed escaped text rest c is no_newline closed = rw (is, ne_eqb c 10 no_newline, closed) refl

pub behind_string_on : (escaped : Bool) (text rest : List ℕ) (c : ℕ) → text ≡ c ∷ rest → c ≢ 10 → (not escaped && eqb c 34) ≡ false → behind_string escaped text ≡ behind_string (not escaped && eqb c 92) rest
unfolding behind_string
behind_string_on escaped text rest c is no_newline unclosed = rw (is, ne_eqb c 10 no_newline, unclosed) refl

pub behind_string_end : (escaped : Bool) (text : List ℕ) → text ≡ [] → behind_string escaped text ≡ None
unfolding behind_string
behind_string_end escaped text is = rw is refl

pub behind_comment_closed : (star : Bool) (text rest : List ℕ) (c : ℕ) → text ≡ c ∷ rest → (star && eqb c 47) ≡ true → behind_comment star text ≡ Some rest
unfolding behind_comment
behind_comment_closed star text rest c is closed = rw (is, closed) refl

pub behind_comment_on : (star : Bool) (text rest : List ℕ) (c : ℕ) → text ≡ c ∷ rest → (star && eqb c 47) ≡ false → behind_comment star text ≡ behind_comment (eqb c 42) rest
unfolding behind_comment
behind_comment_on star text rest c is unclosed = rw (is, unclosed) refl

pub behind_comment_end : (star : Bool) (text : List ℕ) → text ≡ [] → behind_comment star text ≡ None
unfolding behind_comment
behind_comment_end star text is = rw is refl
