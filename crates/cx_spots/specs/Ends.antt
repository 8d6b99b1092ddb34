-- Lists of tokens that end with the end.
use Rattle.std.specs.Prelude.{Bool, true, false, ◌&&◌, List, [], ◌∷◌}
use Rattle.std.specs.Str.{bytes_eq}
use Rattle.cx_lexer.specs.declared.token.TokenKind.{TokenKind}
use Rattle.cx_lexer.specs.declared.token.TokenKind.TheVariants as kind
use Rattle.cx_lexer.specs.Tokens.{TokenTree}
use Rattle.cx_grammar.specs.Pieces.{is_double}

abbrev pub is_end_kind : TokenKind → Bool
is_end_kind kind.End = true
is_end_kind other = false

-- whether a token is the end, which has no text
unfoldable pub is_end : TokenTree → Bool
is_end t = is_end_kind t.kind && bytes_eq t.text []

-- whether the last of some tokens is the end
unfoldable pub ends : List TokenTree → Bool
ends [] = false
ends (t ∷ []) = is_end t
ends (t ∷ u ∷ ts) = ends (u ∷ ts)

-- whether the first half of the first token may be read: it is `>>`
unfoldable pub fits_half : Bool → List TokenTree → Bool
fits_half false ts = true
fits_half true [] = false
fits_half true (t ∷ ts) = is_double t
