-- The numbers of a tree's nodes.
use Rattle.std.specs.Prelude.{◌≡◌, ◌+◌, List, length}
use Rattle.cx_tokens.specs.Pieces.{Piece}
use Rattle.cx_syntax.specs.States.{State}
use Rattle.cx_productions.specs.Trees.{Mark}
use Rattle.cx_productions.specs.Nodes.{IsNumberedFrom}
use Rattle.cx_syntax_laws.specs.GrammarLaws.{Levelled, IsTree}

-- The nodes of a tree are numbered one after the other, each after its parts, from the number on that was next before
-- it; after it the one after them is next.
pub record NumberedNodes {A : Type 0} (nodes : A → List Mark) (p : Levelled A) : Type 0 where
  pub numbered : (s : State) (us : List Piece) (x : A) (w : IsTree p s us x) → IsNumberedFrom s.next (nodes x)
  pub next : (s : State) (us : List Piece) (x : A) (w : IsTree p s us x) → w.after.next ≡ s.next + length (nodes x)
