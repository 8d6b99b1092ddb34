-- What the bytes of a unit are read as ([lex.phases], [lex.pptoken]): its text is divided without rest into skipped
-- pieces and tokens. No reading is in it. A text is the list of its characters, and so is a piece of it.
use Rattle.std.specs.Prelude.{◌≡◌, ◌≢◌, ◌⊎◌, ◌≤◌, ℕ, Bool, not, List, [], ◌∷◌, ◌++◌, take, drop, codes, length, IsTrue, IsUtf8, None, Result, Ok, Err}
use Rattle.std.specs.Str.{chars}
use Rattle.std.specs.Str.Lossy.{utf8_valid_len}
use Rattle.std.specs.List.{list_all, AllByRecursion}
use Rattle.cx_base.specs.Refusal.{Refusal}
use Rattle.cx_base.specs.declared.kind.Kind.{Kind}
use Rattle.cx_base.specs.declared.kind.Kind.TheVariants as fault
use Rattle.cx_lexer.specs.declared.token.TokenKind.{TokenKind}
use Rattle.cx_lexer.specs.declared.token.TokenKind.TheVariants as kind
use Rattle.cx_lexer.specs.Characters.{is_blank, is_newline, is_digit}
use Rattle.cx_lexer.specs.Literals.{is_literal, type_of}
use Rattle.cx_lexer.specs.Places.{place_of, place_at, begins_line}
use Rattle.cx_lexer.specs.Tokens.{text_of, is_number, IsSpelling, IsSomeSpelling, TokenTree, end_at, prepend, fault_at}

-- A text begins with a front.
abbrev pub IsFront : List ℕ → List ℕ → Type 0
IsFront front text = (others : List ℕ) × (text ≡ front ++ others)

-- ---- skipped text

-- One blank.
abbrev pub IsBlank : List ℕ → Type 0
IsBlank piece = (c : ℕ) × (piece ≡ c ∷ []) × IsTrue (is_blank c)

-- A piece goes up to the end of its line: no newline is in it, and a newline or nothing stands behind it.
pub record IsLine (piece rest : List ℕ) : Type 0 where
  pub one_line : IsTrue (list_all (λ c. not (is_newline c)) piece)
  pub ends : (c : ℕ) (others : List ℕ) → rest ≡ c ∷ others → IsTrue (is_newline c)

-- A comment ([lex.comment]) from `//` up to the end of the line.
abbrev pub IsLineComment : List ℕ → List ℕ → Type 0
IsLineComment piece rest = IsFront (codes "//") piece × IsLine piece rest

-- A comment from `/*` to the next `*/`: behind the `/*` the first `*/` is its end.
pub record IsBlockComment (piece : List ℕ) : Type 0 where
  pub inside : List ℕ
  pub is : piece ≡ codes "/*" ++ (inside ++ codes "*/")
  pub next : (front others : List ℕ) → inside ++ codes "*/" ≡ front ++ (codes "*/" ++ others) → others ≡ []

-- What a skipped line begins with: `# ` and a digit, `#line `, or `#pragma`.
abbrev pub BeginsDirective : List ℕ → Type 0
BeginsDirective piece = ((d : ℕ) × IsTrue (is_digit d) × IsFront (codes "# " ++ d ∷ []) piece)
    ⊎ (IsFront (codes "#line ") piece ⊎ IsFront (codes "#pragma") piece)

-- A whole line, from its first column up to its end; `begins` says whether the piece begins a line.
abbrev pub IsDirective : Bool → List ℕ → List ℕ → Type 0
IsDirective begins piece rest = IsTrue begins × BeginsDirective piece × IsLine piece rest

-- One skipped piece before a rest.
abbrev pub IsSkipped : Bool → List ℕ → List ℕ → Type 0
IsSkipped begins piece rest = IsBlank piece ⊎ (IsLineComment piece rest ⊎ (IsBlockComment piece ⊎ IsDirective begins piece rest))

-- No skipped piece stands at the front of a text.
abbrev pub NothingSkipped : Bool → List ℕ → Type 0
NothingSkipped begins text = (piece rest : List ℕ) → text ≡ piece ++ rest → ¬ (IsSkipped begins piece rest)

-- ---- tokens

-- The longest front of a text that a row of the table spells. No row spells the `/` of a `/*`.
pub record IsLongest (piece text : List ℕ) : Type 0 where
  pub front : IsFront piece text
  pub spelled : IsSomeSpelling piece
  pub longest : (other : List ℕ) → IsFront other text → IsSomeSpelling other → length other ≤ length piece
  pub no_comment : ¬ (IsFront (codes "/*") text)

-- The text of an Int: a literal with a type.
abbrev pub IsInt : List ℕ → Type 0
IsInt text = IsTrue (is_literal text) × (type_of text ≢ None)

-- The token at the front of a text: the longest piece and its kind; a number must be an Int.
pub record IsToken (k : TokenKind) (piece text : List ℕ) : Type 0 where
  pub longest : IsLongest piece text
  pub spelling : IsSpelling k piece
  pub int : k ≡ kind.Int → IsInt (text_of piece)

-- ---- faults

-- A text begins with a number that is a literal without a type.
pub record BeginsTooBig (text : List ℕ) : Type 0 where
  pub piece : List ℕ
  pub longest : IsLongest piece text
  pub number : IsTrue (is_number piece)
  pub literal : IsTrue (is_literal (text_of piece))
  pub untyped : type_of (text_of piece) ≡ None

-- A text begins with a number that is no literal, or no row spells a front of it.
pub record BeginsBad (text : List ℕ) : Type 0 where
  pub some : text ≢ []
  pub bad : (piece : List ℕ) → IsLongest piece text → IsTrue (is_number piece) × ¬ (IsTrue (is_literal (text_of piece)))

-- What is wrong where neither skipped text nor a token stands.
abbrev pub IsStuck : List ℕ → Kind → Type 0
IsStuck text k = (BeginsTooBig text × (k ≡ fault.LiteralTooBig)) ⊎ (BeginsBad text × (k ≡ fault.BadToken))

-- ---- divisions

-- A piece of a division: skipped, or a token's text.
pub data Piece : Type 0 where
  Skipped : List ℕ → Piece
  Read : List ℕ → Piece

-- No skipped piece stands at the front of the text behind some bytes.
abbrev pub NothingSkippedBehind : List ℕ → List ℕ → Type 0
NothingSkippedBehind before text = NothingSkipped (begins_line (place_of before)) text

-- What comes of a text behind some bytes at whose front neither skipped text nor a token stands: the end, or what is
-- wrong there.
abbrev pub IsLast : List ℕ → List ℕ → Result (List TokenTree) Refusal → Type 0
IsLast before text r = ((text ≡ []) × (r ≡ Ok (end_at (place_of before) ∷ []))) ⊎ ((k : Kind) × IsStuck text k × (r ≡ Err (fault_at k (place_of before))))

-- the token that a piece behind some bytes is
abbrev pub token_at : List ℕ → TokenKind → List ℕ → TokenTree
token_at before k piece = record { kind = k; text = text_of piece; at = place_of before }

-- The text behind some bytes is divided into these pieces, and this comes of it: its tokens and the end, or what is
-- wrong behind the last piece.
abbrev pub IsDivided : List ℕ → List ℕ → List Piece → Result (List TokenTree) Refusal → Type 0
IsDivided before text [] r = NothingSkippedBehind before text × IsLast before text r
IsDivided before text (Skipped piece ∷ pieces) r = (rest : List ℕ) × (text ≡ piece ++ rest)
    × IsSkipped (begins_line (place_of before)) piece rest
    × IsDivided (before ++ text_of piece) rest pieces r
IsDivided before text (Read piece ∷ pieces) r = (rest : List ℕ) × (text ≡ piece ++ rest)
    × NothingSkippedBehind before text × (k : TokenKind) × IsToken k piece text
    × (others : Result (List TokenTree) Refusal) × IsDivided (before ++ text_of piece) rest pieces others
    × (r ≡ prepend (token_at before k piece) others)

-- What a unit's bytes are read as: what comes of the division of their text; where they are no UTF-8, the fault
-- BadByte at the byte where they cease to be.
abbrev pub AreTokens : List ℕ → Result (List TokenTree) Refusal → Type 0
AreTokens bytes r = (IsUtf8 bytes × (pieces : List Piece) × IsDivided [] (chars bytes) pieces r)
    ⊎ ((¬ (IsUtf8 bytes)) × (r ≡ Err (fault_at fault.BadByte (place_at bytes (utf8_valid_len bytes)))))

-- What comes of a unit's text from an offset on.
abbrev pub ComesFrom : List ℕ → ℕ → Result (List TokenTree) Refusal → Type 0
ComesFrom bytes from r = (pieces : List Piece) × IsDivided (take from bytes) (chars (drop from bytes)) pieces r

-- The first token that comes of the text from an offset on, and the offset behind it, from which the others come. The
-- end comes alone.
abbrev pub IsNext : List ℕ → ℕ → TokenTree → ℕ → Type 0
IsNext bytes from t to = ((t.kind ≡ kind.End) × ComesFrom bytes from (Ok (t ∷ [])))
    ⊎ ((t.kind ≢ kind.End) × (others : Result (List TokenTree) Refusal) × ComesFrom bytes to others × ComesFrom bytes from (prepend t others))

-- ---- what holds of tokens that are read

-- The end stands last, and nowhere else.
abbrev pub EndsOnce : List TokenTree → Type 0
EndsOnce [] = ⊥
EndsOnce (t ∷ []) = t.kind ≡ kind.End
EndsOnce (t ∷ u ∷ ts) = (t.kind ≢ kind.End) × EndsOnce (u ∷ ts)

-- The end has no text. Any other token's text is a spelling of its kind, and that of an Int a literal with a type.
pub record IsSpelled (t : TokenTree) : Type 0 where
  pub bare : t.kind ≡ kind.End → t.text ≡ []
  pub spelling : (t.kind ≢ kind.End) → (piece : List ℕ) × (t.text ≡ text_of piece) × IsSpelling t.kind piece
  pub typed : t.kind ≡ kind.Int → IsInt t.text

abbrev pub AreSpelled : List TokenTree → Type 0
AreSpelled ts = AllByRecursion IsSpelled ts

-- A token's text stands in some bytes, at its place.
abbrev pub StandsIn : List ℕ → TokenTree → Type 0
StandsIn bytes t = (front back : List ℕ) × (bytes ≡ front ++ (t.text ++ back)) × (t.at ≡ place_of front)

-- The kinds of fault that bytes have which are no tokens.
abbrev pub IsLexical : Kind → Type 0
IsLexical k = (k ≡ fault.BadByte) ⊎ ((k ≡ fault.BadToken) ⊎ (k ≡ fault.LiteralTooBig))
