-- What it is for tokens to be a unit, and what the tokens of a unit are.
use Rattle.std.specs.Prelude.{◌≡◌, ◌⊎◌, ℕ, true, List, [], ◌∷◌, ◌++◌, codes, Result, Ok, Err}
use Rattle.cx_base.specs.Refusal.{Refusal, Passed}
use Rattle.cx_base.specs.declared.kind.Kind.TheVariants as fault
use Rattle.cx_base.specs.declared.limit.Limit.TheVariants as limits
use Rattle.cx_lexer.specs.Places.{start}
use Rattle.cx_lexer.specs.Tokens.{TokenTree, end_at}
use Rattle.cx_tree.specs.Declarations.{UnitTree}
use Rattle.cx_grammar.specs.Pieces.{Piece, as_piece, All, pieces}
use Rattle.cx_grammar.specs.Words.{misfit, refused, word}
use Rattle.cx_grammar.specs.Production.{Stopped, At}
use Rattle.cx_grammar.specs.Expressions.{no_requires}
use Rattle.cx_grammar.specs.Declarations.{unit_levels}
use Rattle.cx_grammar.specs.Laws.{Levelled, IsTreeWithin, BeginsWithin, Begins}
use Rattle.cx_parse_decl.specs.Functions.{unit}

-- The greatest load that a token may have.
abbrev pub load_limit : ℕ
load_limit = 256

-- How deep the reader of units goes within their bodies: more than loads up to the limit leave.
abbrev pub depth : ℕ
depth = 262

-- Units, however deep the constructs within their bodies are nested.
abbrev pub units : Levelled UnitTree
units level = unit (unit_levels no_requires level)

-- The tokens are a unit, of no load above the limit.
abbrev pub IsUnit : List TokenTree → UnitTree → Type 0
IsUnit ts u = IsTreeWithin load_limit units (pieces ts) u

-- The tokens begin a unit, whatever their loads; and with no load above the limit.
abbrev pub BeginsUnit : List TokenTree → Type 0
BeginsUnit ts = Begins units (pieces ts)

abbrev pub BeginsUnitWithin : List TokenTree → Type 0
BeginsUnitWithin ts = BeginsWithin load_limit units (pieces ts)

-- The fault at a token that does not fit. The word that begins a requires-expression is unsupported, since those are not
-- read yet.
abbrev pub IsFaultOf : TokenTree → Refusal → Type 0
IsFaultOf t r = (r ≡ misfit t) ⊎ ((word (codes "requires") (as_piece t All) ≡ true) × (r ≡ refused fault.Unsupported t.at))

-- The refusal is that of the first token that does not fit: the tokens before it begin a unit, with no load above the
-- limit, and with it they begin none.
pub record IsMisfit (ts : List TokenTree) (r : Refusal) : Type 0 where
  pub front : List TokenTree
  pub token : TokenTree
  pub behind : List TokenTree
  pub parts : ts ≡ front ++ token ∷ behind
  pub refused : IsFaultOf token r
  pub before : BeginsUnitWithin front
  pub misfit : ¬ (BeginsUnit (front ++ token ∷ []))

-- The refusal is that of the first piece whose load passes the limit: the pieces before it begin a unit with no load
-- above the limit, and with it they begin one, but none with no load above the limit.
pub record IsTooDeep (ts : List TokenTree) (r : Refusal) : Type 0 where
  pub front : List Piece
  pub piece : Piece
  pub behind : List Piece
  pub parts : pieces ts ≡ front ++ piece ∷ behind
  pub passed : r ≡ Passed limits.Depth piece.token.at
  pub before : BeginsWithin load_limit units front
  pub begins : Begins units (front ++ piece ∷ [])
  pub too_deep : ¬ (BeginsWithin load_limit units (front ++ piece ∷ []))

-- The refusal where tokens run out, which they do nowhere where the end stands last: as if the end stood at the start.
abbrev pub ran_out : Refusal
ran_out = misfit (end_at start)

-- what a reader gave, as a stage's answer
abbrev pub answer : Result (UnitTree × List Piece) Stopped → Result UnitTree Refusal
answer (Ok x) = Ok x.0
answer (Err (At r)) = Err r
answer (Err other) = Err ran_out

-- The unit of these tokens.
unfoldable pub unit_at : List TokenTree → Result UnitTree Refusal
unit_at ts = answer ((units depth).read load_limit (pieces ts))
