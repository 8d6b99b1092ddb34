-- What the rows of the table spell. A piece of a text is a list of characters.
use Rattle.std.specs.Prelude.{◌≡◌, ◌≢◌, ◌⊎◌, ℕ, Bool, true, false, ◌||◌, ◌&&◌, not, List, [], ◌∷◌, ◌++◌, codes, encode_utf8_all, IsTrue, Result, Ok}
use Rattle.std.specs.List.{list_all, concat, AllByRecursion}
use Rattle.cx_base.specs.Refusal.{Refusal, Refused, ◌>>=◌}
use Rattle.cx_base.specs.declared.kind.Kind.{Kind}
use Rattle.cx_base.specs.declared.place.Place.{Place}
use Rattle.cx_lexer.specs.declared.token.Token.{Token}
use Rattle.cx_lexer.specs.declared.token.TokenKind.{TokenKind}
use Rattle.cx_lexer.specs.declared.token.TokenKind.TheVariants as kind
use Rattle.cx_lexer.specs.Characters.{is_digit, begins_name, continues_name, continues_number}
use Rattle.cx_lexer.specs.Words.{has_word, reserved_words, alternative_tokens, punctuators}

-- The text of a piece: its characters in UTF-8.
abbrev pub text_of : List ℕ → List ℕ
text_of piece = encode_utf8_all piece

-- An identifier ([lex.name]): what begins a name, then what goes on with it.
unfoldable pub is_identifier : List ℕ → Bool
is_identifier [] = false
is_identifier (c ∷ cs) = begins_name c && list_all continues_name cs

-- A reserved word.
unfoldable pub is_word : List ℕ → Bool
is_word piece = has_word reserved_words (text_of piece)

-- A punctuator, or an alternative token.
unfoldable pub is_punctuator : List ℕ → Bool
is_punctuator piece = has_word punctuators (text_of piece) || has_word alternative_tokens (text_of piece)

-- A name: an identifier that is no reserved word and no alternative token.
unfoldable pub is_name : List ℕ → Bool
is_name piece = is_identifier piece && not (is_word piece) && not (is_punctuator piece)

-- whether each character goes on with a number behind the one before it
abbrev pub all_continue : ℕ → List ℕ → Bool
all_continue before [] = true
all_continue before (c ∷ cs) = continues_number before c && all_continue c cs

-- A number ([lex.ppnumber]): a digit and what goes on with it, whether or not it is a literal.
unfoldable pub is_number : List ℕ → Bool
is_number [] = false
is_number (c ∷ cs) = is_digit c && all_continue c cs

-- One character of a string: any but a quotation mark, a backslash and a newline, or a backslash and any but a newline.
abbrev pub IsStringCharacter : List ℕ → Type 0
IsStringCharacter piece = ((c : ℕ) × (piece ≡ c ∷ []) × (c ≢ 34) × (c ≢ 92) × (c ≢ 10)) ⊎ ((c : ℕ) × (piece ≡ codes "\\" ++ c ∷ []) × (c ≢ 10))

-- A string ([lex.string]): a quotation mark, characters of a string, and a quotation mark.
abbrev pub IsString : List ℕ → Type 0
IsString piece = (characters : List (List ℕ)) × AllByRecursion IsStringCharacter characters × (piece ≡ codes "\"" ++ (concat characters ++ codes "\""))

-- The rows of the table: which pieces spell a token of a kind. A number need not be a literal. The end has no spelling.
abbrev pub IsSpelling : TokenKind → List ℕ → Type 0
IsSpelling kind.Name piece = IsTrue (is_name piece)
IsSpelling kind.Word piece = IsTrue (is_word piece)
IsSpelling kind.Int piece = IsTrue (is_number piece)
IsSpelling kind.Str piece = IsString piece
IsSpelling kind.Punct piece = IsTrue (is_punctuator piece)
IsSpelling kind.End piece = ⊥

-- Some row spells a piece.
abbrev pub IsSomeSpelling : List ℕ → Type 0
IsSomeSpelling piece = (k : TokenKind) × IsSpelling k piece

-- A token without where it lies in memory.
pub record TokenTree : Type 0 where
  pub kind : TokenKind
  pub text : List ℕ
  pub at : Place

abbrev pub end_at : Place → TokenTree
end_at at = record { kind = kind.End; text = []; at = at }

-- a token before those that are read
abbrev pub prepend : TokenTree → Result (List TokenTree) Refusal → Result (List TokenTree) Refusal
prepend t rest = rest >>= (λ ts. Ok (t ∷ ts))

-- the fault of a kind at a place
abbrev pub fault_at : Kind → Place → Refusal
fault_at k at = Refused (record { kind = k; at = at; also = []; chain = [] })

-- what a token of the code stands for
abbrev pub token_tree : Token → TokenTree
token_tree t = record { kind = t.kind; text = t.text.now; at = t.at }
