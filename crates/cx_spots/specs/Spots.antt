-- What of a unit's tokens is still to be read.
use Rattle.std.specs.Prelude.{◌≡◌, ℕ, ◌+◌, ◌*◌, ◌-◌, ◌≤◌, Bool, true, false, ◌&&◌, List, [], ◌∷◌, length, map, Result, IfOk}
use Rattle.std.specs.Str.{bytes_eq}
use Rattle.cx_base.specs.Refusal.{Refusal, Refused}
use Rattle.cx_base.specs.declared.stop.Stop.{Stop}
use Rattle.cx_base.specs.declared.stop.Stop.TheVariants as stop
use Rattle.cx_lexer.specs.declared.token.Token.{Token}
use Rattle.cx_lexer.specs.declared.token.TokenKind.{TokenKind}
use Rattle.cx_lexer.specs.declared.token.TokenKind.TheVariants as kind
use Rattle.cx_lexer.specs.Tokens.{TokenTree, token_tree}
use Rattle.cx_tree.specs.declared.expression.Expr.{Expr}
use Rattle.cx_tree.specs.declared.types.TypeSyn.{TypeSyn}
use Rattle.cx_tree.specs.Trees.{ExprTree, TypeTree, expr_tree, type_tree}
use Rattle.cx_grammar.specs.Pieces as pieces
use Rattle.cx_grammar.specs.Pieces.{as_piece, is_double}
use Rattle.cx_grammar.specs.Production.{Production, Gives}
use Rattle.cx_grammar.specs.Names as names
use Rattle.cx_grammar.specs.Types.{Below, Numbered}
use Rattle.cx_grammar.specs.Expressions.{levels, no_requires}
use Rattle.cx_spots.specs.declared.context.Context.{Context}
use Rattle.cx_spots.specs.declared.piece.Half.{Half}
use Rattle.cx_spots.specs.declared.piece.Half.TheVariants as half
use Rattle.cx_spots.specs.declared.piece.Piece.{Piece}
use Rattle.cx_spots.specs.declared.spot.Spot.{Spot}
use Rattle.cx_spots.specs.Ends.{is_end}

abbrev pub half_of : Half → pieces.Half
half_of half.All = pieces.All
half_of half.First = pieces.First
half_of half.Second = pieces.Second

abbrev pub piece_tree : Piece → pieces.Piece
piece_tree p = record { token = token_tree p.token; half = half_of p.half }

-- the pieces that are left of tokens, the first half of the first one being read or not
unfoldable pub left : Bool → List TokenTree → List pieces.Piece
left false ts = pieces.pieces ts
left true [] = []
left true (t ∷ ts) = as_piece t pieces.Second ∷ pieces.pieces ts

abbrev pub left_at : Spot → List pieces.Piece
left_at s = left s.half (map token_tree s.tokens.now)

-- whether a piece is the end
unfoldable pub end_piece : pieces.Piece → Bool
end_piece p = is_end p.token

-- the first of some pieces
abbrev pub IsFirst : pieces.Piece → List pieces.Piece → Type 0
IsFirst p [] = ⊥
IsFirst p (q ∷ ps) = q ≡ p

abbrev pub context_of : Context → names.Context
context_of c = record { names = c.scope.now; angle = c.angle; load = c.load }

-- The productions that stand where a context does, and those one construct deeper.
abbrev pub at : names.Context → Below
at c = levels no_requires (264 - c.load)

abbrev pub below : names.Context → Below
below c = levels no_requires (264 - (c.load + 1))

-- The number of the next node, and 8 for each piece that is left: it falls as pieces are read, since each piece makes
-- fewer nodes.
abbrev pub weight : Spot → ℕ
weight s = s.next + 8 * length (left_at s)

-- a call stopped by a refusal
abbrev pub IsStop : Refusal → Stop → Type 0
IsStop r (stop.Fault f) = r ≡ Refused f
IsStop r other = ⊥

-- What a call read from a spot on is what a production's reader gives ..
abbrev pub Reads : {X A : Type 0} → (X → A) → Production A → Spot → Result (X × Spot) Stop → Type 0
Reads view p s r = Gives (λ x. (view x.0, left_at x.1)) r (p.read 256 (left_at s))

-- .. which numbers nodes.
abbrev pub ReadsNode : {X A : Type 0} → (X → A) → (ℕ → Production (Numbered A)) → Spot → Result (X × Spot) Stop → Type 0
ReadsNode view p s r = Gives (λ x. ((view x.0, x.1.next), left_at x.1)) r ((p s.next).read 256 (left_at s))

-- by how much at least the weight is less behind what was read; numbers are not given back
abbrev pub Lightens : {X : Type 0} → ℕ → Spot → Result (X × Spot) Stop → Type 0
Lightens by s r = IfOk r (λ x. (s.next ≤ x.1.next) × (weight x.1 + by ≤ weight s))
