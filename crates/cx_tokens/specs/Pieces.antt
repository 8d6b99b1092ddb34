-- What the grammar reads: tokens, each `>>` as two pieces, since it closes two lists of template arguments or is one
-- operator ([temp.names]).
use Rattle.std.specs.Prelude.{Bool, true, false, List, [], ◌∷◌}
use Rattle.std.specs.List.{flat_map}
use Rattle.cx_tokens.specs.declared.word.Word.{Word}
use Rattle.cx_tokens.specs.declared.word.Word.TheVariants as word
use Rattle.cx_tokens.specs.declared.punctuator.Punctuator.{Punctuator}
use Rattle.cx_tokens.specs.declared.punctuator.Punctuator.TheVariants as punctuator
use Rattle.cx_tokens.specs.declared.token.TokenKind.{TokenKind}
use Rattle.cx_tokens.specs.declared.token.TokenKind.TheVariants as kind
use Rattle.cx_tokens.specs.Spelled.{same_word, same_punctuator}
use Rattle.cx_tokens.specs.Tokens.{TokenTree}

-- a whole token, or a half of `>>`
pub data Half : Type 0 where
  All : Half
  First : Half
  Second : Half

pub record Piece : Type 0 where
  pub token : TokenTree
  pub half : Half

abbrev pub as_piece : TokenTree → Half → Piece
as_piece t half = record { token = t; half = half }

-- The pieces of a token of a kind.
abbrev pub halves_of : TokenKind → TokenTree → List Piece
halves_of (kind.Punct punctuator.GreaterGreater) t = as_piece t First ∷ as_piece t Second ∷ []
halves_of other t = as_piece t All ∷ []

unfoldable pub halves : TokenTree → List Piece
halves t = halves_of t.kind t

-- The pieces of tokens.
abbrev pub pieces : List TokenTree → List Piece
pieces ts = flat_map halves ts

-- ---- what a token is

-- A reserved word.
abbrev pub is_word : Word → TokenKind → Bool
is_word w (kind.Word v) = same_word v w
is_word w other = false

-- A punctuator.
abbrev pub is_punctuator : Punctuator → TokenKind → Bool
is_punctuator p (kind.Punct q) = same_punctuator q p
is_punctuator p other = false

-- A name, a literal, a string, the end of the text.
abbrev pub is_name : TokenKind → Bool
is_name kind.Name = true
is_name other = false

abbrev pub is_literal : TokenKind → Bool
is_literal kind.Int = true
is_literal other = false

abbrev pub is_string : TokenKind → Bool
is_string kind.Str = true
is_string other = false

abbrev pub is_end : TokenKind → Bool
is_end kind.End = true
is_end other = false

-- A token that the language has no use for.
abbrev pub is_unsupported : TokenKind → Bool
is_unsupported (kind.Word word.Unused) = true
is_unsupported (kind.Punct punctuator.Unused) = true
is_unsupported other = false

-- ---- what a piece is

abbrev pub is_all : Half → Bool
is_all All = true
is_all other = false

abbrev pub is_first : Half → Bool
is_first First = true
is_first other = false

abbrev pub is_second : Half → Bool
is_second Second = true
is_second other = false
