-- What is read where requires-expressions are not, and what the language has.
use Rattle.std.specs.Prelude.{◌≡◌, ◌⊎◌, ◌≤◌, ℕ, true, List, [], ◌∷◌, ◌++◌, codes, Err}
use Rattle.cx_base.specs.declared.kind.Kind.TheVariants as fault
use Rattle.cx_grammar.specs.Pieces.{Piece}
use Rattle.cx_grammar.specs.Words.{refused, word}
use Rattle.cx_grammar.specs.Production.{Production, At}
use Rattle.cx_grammar.specs.Laws.{Levelled, IsTreeWithin, BeginsWithin}

-- A reader came to a requires-expression that it does not read: it is unsupported at its word, with which the pieces
-- before it begin a tree of the language.
pub record IsUnread {A : Type 0} (p q : Production A) (limit : ℕ) (ts : List Piece) : Type 0 where
  pub before : List Piece
  pub word' : Piece
  pub behind : List Piece
  pub parts : ts ≡ before ++ word' ∷ behind
  pub its : word (codes "requires") word' ≡ true
  pub stops : p.read limit ts ≡ Err (At (refused fault.Unsupported word'.token.at))
  pub greater : ℕ
  pub above : limit ≤ greater
  pub goes_on : q.front greater (before ++ word' ∷ [])

-- The trees of one production are trees of another, with the same values and loads, and its beginnings are beginnings.
-- Their readers answer the same, tree or refusal, unless the first comes to a requires-expression that it does not read.
pub record IsPartOf {A : Type 0} (p q : Levelled A) : Type 0 where
  pub trees : (limit : ℕ) (ts : List Piece) (x : A) → IsTreeWithin limit p ts x → IsTreeWithin limit q ts x
  pub beginnings : (limit : ℕ) (ts : List Piece) → BeginsWithin limit p ts → BeginsWithin limit q ts
  pub answers : (limit level : ℕ) (ts : List Piece) → ((q level).read limit ts ≡ (p level).read limit ts) ⊎ IsUnread (p level) (q level) limit ts
