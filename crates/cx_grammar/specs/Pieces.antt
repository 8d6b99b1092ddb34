-- What the grammar reads: tokens, each `>>` as two pieces, since it closes two lists of template arguments or is one
-- operator.
use Rattle.std.specs.Prelude.{Bool, if◌then◌else◌, List, [], ◌∷◌, codes}
use Rattle.std.specs.Str.{bytes_eq}
use Rattle.std.specs.List.{flat_map}
use Rattle.cx_lexer.specs.Tokens.{TokenTree}

-- a whole token, or a half of `>>`
pub data Half : Type 0 where
  All : Half
  First : Half
  Second : Half

pub record Piece : Type 0 where
  pub token : TokenTree
  pub half : Half

abbrev pub as_piece : TokenTree → Half → Piece
as_piece t half = record { token = t; half = half }

-- whether a token is `>>`
unfoldable pub is_double : TokenTree → Bool
is_double t = bytes_eq t.text (codes ">>")

abbrev pub halves : TokenTree → List Piece
halves t = if is_double t then as_piece t First ∷ as_piece t Second ∷ [] else as_piece t All ∷ []

-- The pieces of tokens.
abbrev pub pieces : List TokenTree → List Piece
pieces ts = flat_map halves ts
