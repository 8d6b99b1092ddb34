-- What the pieces of the code stand for, and which pieces are left of tokens.
use Rattle.std.specs.Prelude.{Bool, true, false, List, [], ◌∷◌, Option, None, Some}
use Rattle.cx_tokens.specs.Pieces as pieces
use Rattle.cx_tokens.specs.Tokens.{TokenTree, token_tree}
use Rattle.cx_cursor.specs.declared.piece.Half.{Half}
use Rattle.cx_cursor.specs.declared.piece.Half.TheVariants as half
use Rattle.cx_cursor.specs.declared.piece.Piece.{Piece}

abbrev pub half_of : Half → pieces.Half
half_of half.All = pieces.All
half_of half.First = pieces.First
half_of half.Second = pieces.Second

abbrev pub piece_tree : Piece → pieces.Piece
piece_tree p = record { token = token_tree p.token; half = half_of p.half }

-- The pieces that are left of tokens, the first half of the first one being read or not.
unfoldable pub pieces_left : Bool → List TokenTree → List pieces.Piece
pieces_left false ts = pieces.pieces ts
pieces_left true [] = []
pieces_left true (t ∷ ts) = pieces.as_piece t pieces.Second ∷ pieces.pieces ts

-- the first of some pieces, and the others
abbrev pub head_piece : List pieces.Piece → Option pieces.Piece
head_piece [] = None
head_piece (t ∷ ts) = Some t

abbrev pub tail_pieces : List pieces.Piece → List pieces.Piece
tail_pieces [] = []
tail_pieces (t ∷ ts) = ts
