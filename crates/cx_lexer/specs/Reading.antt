-- A reader of texts from the front: what stands at the front of a text, by what is left behind it. That it reads the
-- division of the text is a law, `one_division`.
use Rattle.std.specs.Prelude.{◌≡◌, ℕ, ◌++◌, suc, zero, ◌-◌, Bool, true, false, ◌||◌, ◌&&◌, not, ◌==◌, if◌then◌else◌, Option, Some, None, is_some, is_none, Result, Ok, Err, List, [], ◌∷◌, codes, length, take, drop}
use Rattle.std.specs.Str.{chars, is_utf8}
use Rattle.std.specs.Str.Lossy.{utf8_valid_len}
use Rattle.cx_base.specs.Refusal.{Refusal, ◌>>=◌}
use Rattle.cx_base.specs.declared.kind.Kind.{Kind}
use Rattle.cx_base.specs.declared.kind.Kind.TheVariants as fault
use Rattle.cx_base.specs.declared.place.Place.{Place}
use Rattle.cx_lexer.specs.declared.token.TokenKind.{TokenKind}
use Rattle.cx_lexer.specs.declared.token.TokenKind.TheVariants as kind
use Rattle.cx_lexer.specs.Characters.{is_blank, is_newline, is_digit, begins_name, continues_name, continues_number}
use Rattle.cx_lexer.specs.Words.{has_word, reserved_words, alternative_tokens, punctuators}
use Rattle.cx_lexer.specs.Literals.{is_literal, type_of}
use Rattle.cx_lexer.specs.Places.{place_at, place_behind, start}
use Rattle.cx_lexer.specs.Tokens.{text_of, TokenTree, end_at}
pub use Rattle.cx_lexer.specs.Places.{begins_line}
pub use Rattle.cx_lexer.specs.Tokens.{prepend, fault_at}

-- ---- what is left behind a piece

abbrev pub behind_while : (ℕ → Bool) → List ℕ → List ℕ
behind_while p [] = []
behind_while p (c ∷ cs) = if p c then behind_while p cs else c ∷ cs

unfoldable pub behind_name : List ℕ → List ℕ
behind_name text = behind_while continues_name text

unfoldable pub behind_line : List ℕ → List ℕ
behind_line text = behind_while (λ c. not (is_newline c)) text

unfoldable pub behind_number : ℕ → List ℕ → List ℕ
behind_number before [] = []
behind_number before (c ∷ cs) = if continues_number before c then behind_number c cs else c ∷ cs

unfoldable pub behind_string : Bool → List ℕ → Option (List ℕ)
behind_string escaped [] = None
behind_string escaped (c ∷ cs) =
    if c == 10 then None
    else if not escaped && c == 34 then Some cs
    else behind_string (not escaped && c == 92) cs

unfoldable pub behind_comment : Bool → List ℕ → Option (List ℕ)
behind_comment star [] = None
behind_comment star (c ∷ cs) = if star && c == 47 then Some cs else behind_comment (c == 42) cs

unfoldable pub behind_word : List ℕ → List ℕ → Option (List ℕ)
behind_word [] text = Some text
behind_word (w ∷ ws) [] = None
behind_word (w ∷ ws) (c ∷ cs) = if w == c then behind_word ws cs else None

abbrev pub or_else : Option (List ℕ) → Option (List ℕ) → Option (List ℕ)
or_else (Some x) other = Some x
or_else None other = other

abbrev pub and_then : Option (List ℕ) → (List ℕ → Option (List ℕ)) → Option (List ℕ)
and_then (Some x) f = f x
and_then None f = None

-- the first of the words that stands at the front
abbrev pub behind_first : List (List ℕ) → List ℕ → Option (List ℕ)
behind_first [] text = None
behind_first (w ∷ ws) text = or_else (behind_word (chars w) text) (behind_first ws text)

unfoldable pub behind_punctuator : List ℕ → Option (List ℕ)
behind_punctuator text = behind_first punctuators text

unfoldable pub starts_with_word : List ℕ → List ℕ → Bool
starts_with_word word text = is_some (behind_word word text)

-- ---- skipped text

abbrev pub begins_with_digit : List ℕ → Bool
begins_with_digit [] = false
begins_with_digit (c ∷ cs) = is_digit c

abbrev pub some_begins_with_digit : Option (List ℕ) → Bool
some_begins_with_digit None = false
some_begins_with_digit (Some text) = begins_with_digit text

unfoldable pub line_comment_mark : List ℕ
line_comment_mark = chars (codes "//")

unfoldable pub comment_mark : List ℕ
comment_mark = chars (codes "/*")

unfoldable pub number_mark : List ℕ
number_mark = chars (codes "# ")

unfoldable pub line_mark : List ℕ
line_mark = chars (codes "#line ")

unfoldable pub pragma_mark : List ℕ
pragma_mark = chars (codes "#pragma")

unfoldable pub hash_mark : List ℕ
hash_mark = chars (codes "#")

-- the rest of a line that begins with a mark
unfoldable pub behind_marked_line : List ℕ → List ℕ → Option (List ℕ)
behind_marked_line mark text = and_then (behind_word mark text) (λ rest. Some (behind_line rest))

-- `# ` and a digit, `#line `, or `#pragma`
unfoldable pub is_directive : List ℕ → Bool
is_directive text = some_begins_with_digit (behind_word number_mark text) || starts_with_word line_mark text || starts_with_word pragma_mark text

unfoldable pub behind_blank : List ℕ → Option (List ℕ)
behind_blank [] = None
behind_blank (c ∷ cs) = if is_blank c then Some cs else None

unfoldable pub behind_line_comment : List ℕ → Option (List ℕ)
behind_line_comment text = behind_marked_line line_comment_mark text

unfoldable pub behind_block_comment : List ℕ → Option (List ℕ)
behind_block_comment text = and_then (behind_word comment_mark text) (behind_comment false)

unfoldable pub behind_directive : Bool → List ℕ → Option (List ℕ)
behind_directive begins_line text = if begins_line && is_directive text then behind_marked_line hash_mark text else None

-- one blank, comment or directive
unfoldable pub behind_skipped : Bool → List ℕ → Option (List ℕ)
behind_skipped begins_line text = or_else (behind_blank text) (or_else (behind_line_comment text) (or_else (behind_block_comment text) (behind_directive begins_line text)))

-- ---- tokens

-- `/*` begins no token
unfoldable pub behind_operator : List ℕ → Option (List ℕ)
behind_operator text = if starts_with_word comment_mark text then None else behind_punctuator text

unfoldable pub behind_token : List ℕ → Option (List ℕ)
behind_token [] = None
behind_token (c ∷ cs) =
    if begins_name c then Some (behind_name cs)
    else if is_digit c then Some (behind_number c cs)
    else if c == 34 then behind_string false cs
    else behind_operator (c ∷ cs)

-- the kind of an identifier's text
unfoldable pub word_kind : List ℕ → TokenKind
word_kind text =
    if has_word reserved_words text then kind.Word
    else if has_word alternative_tokens text then kind.Punct
    else kind.Name

-- the kind of a token that begins with a character and has a text
unfoldable pub kind_by : ℕ → List ℕ → TokenKind
kind_by c text =
    if begins_name c then word_kind text
    else if is_digit c then kind.Int
    else if c == 34 then kind.Str
    else kind.Punct

-- what is wrong with a number's text, if anything
unfoldable pub number_fault : List ℕ → Option Kind
number_fault text =
    if not (is_literal text) then Some fault.BadToken
    else if is_none (type_of text) then Some fault.LiteralTooBig
    else None

-- what is wrong with a token's text, if anything
abbrev pub token_fault : TokenKind → List ℕ → Option Kind
token_fault kind.Int text = number_fault text
token_fault other text = None

-- ---- a reader

-- What is left of a text: its characters, and the place of the first.
pub record Spot : Type 0 where
  pub at : Place
  pub text : List ℕ

-- the characters of a text before what is left of it
abbrev pub before : List ℕ → List ℕ → List ℕ
before text rest = take (length text - length rest) text

-- Where a reader stands that has gone to what is left.
abbrev pub gone : Spot → List ℕ → Spot
gone s rest = record { at = place_behind s.at (text_of (before s.text rest)); text = rest }

-- What is left is an end of the text.
abbrev pub IsEndOf : List ℕ → List ℕ → Type 0
IsEndOf rest text = (front : List ℕ) × (text ≡ front ++ rest)

abbrev pub skip_step : (Spot → Spot) → Spot → Option (List ℕ) → Spot
skip_step go_on s None = s
skip_step go_on s (Some rest) = go_on (gone s rest)

-- Behind the skipped text, in at most so many pieces.
abbrev pub skip_within : ℕ → Spot → Spot
skip_within zero s = s
skip_within (suc n) s = skip_step (skip_within n) s (behind_skipped (begins_line s.at) s.text)

unfoldable pub skip : Spot → Spot
skip s = skip_within (length s.text) s

-- a token, and what is left behind it
pub record Step : Type 0 where
  pub token : TokenTree
  pub behind : Spot

abbrev pub token_step : TokenKind → Spot → List ℕ → Step
token_step k s rest = record { token = record { kind = k; text = text_of (before s.text rest); at = s.at }; behind = gone s rest }

abbrev pub fault_step : Option Kind → TokenKind → Spot → List ℕ → Result Step Refusal
fault_step None k s rest = Ok (token_step k s rest)
fault_step (Some f) k s rest = Err (fault_at f s.at)

-- a token's text is checked
abbrev pub checked_step : ℕ → Spot → List ℕ → List ℕ → Result Step Refusal
checked_step c s rest text = fault_step (token_fault (kind_by c text) text) (kind_by c text) s rest

abbrev pub read_step : ℕ → Spot → Option (List ℕ) → Result Step Refusal
read_step c s None = Err (fault_at fault.BadToken s.at)
read_step c s (Some rest) = checked_step c s rest (text_of (before s.text rest))

abbrev pub read_from : Spot → List ℕ → Result Step Refusal
read_from s [] = Ok (record { token = end_at s.at; behind = s })
read_from s (c ∷ cs) = read_step c s (behind_token (c ∷ cs))

-- The token that stands here, where no skipped text does.
unfoldable pub read : Spot → Result Step Refusal
read s = read_from s s.text

-- The next token.
unfoldable pub next : Spot → Result Step Refusal
next s = read (skip s)

-- whether a kind is that of the end
abbrev pub is_end : TokenKind → Bool
is_end kind.End = true
is_end other = false

-- The tokens from here on, the end last, in at most so many.
abbrev pub tokens_within : ℕ → Spot → Result (List TokenTree) Refusal
tokens_within zero s = Ok []
tokens_within (suc n) s = next s >>= (λ t. if is_end t.token.kind then Ok (t.token ∷ []) else prepend t.token (tokens_within n t.behind))

unfoldable pub tokens_from : Spot → Result (List TokenTree) Refusal
tokens_from s = tokens_within (suc (length s.text)) s

-- where a unit begins
abbrev pub start_of : List ℕ → Spot
start_of bytes = record { at = start; text = chars bytes }

-- What a unit's bytes are read as: its tokens, or its first fault. It has the fault BadByte where the bytes cease to be
-- UTF-8, before all others.
unfoldable pub lexed : List ℕ → Result (List TokenTree) Refusal
lexed bytes = if is_utf8 bytes then tokens_from (start_of bytes) else Err (fault_at fault.BadByte (place_at bytes (utf8_valid_len bytes)))

-- A reader that stands at an offset of a unit.
abbrev pub spot : List ℕ → ℕ → Spot
spot bytes from = record { at = place_at bytes from; text = chars (drop from bytes) }

-- tokens before those that are read
abbrev pub joined : List TokenTree → Result (List TokenTree) Refusal → Result (List TokenTree) Refusal
joined ts rest = rest >>= (λ others. Ok (ts ++ others))
