-- The numbers of nodes.
use Rattle.std.specs.Prelude.{◌≤◌, ◌+◌, ◌*◌, List, length}
use Rattle.cx_tokens.specs.Tokens.{TokenTree}
use Rattle.cx_tokens.specs.Pieces.{Piece, pieces}
use Rattle.cx_syntax.specs.States.{State}
use Rattle.cx_syntax_laws.specs.GrammarLaws.{Levelled, IsTree}

-- A tree has at most eight nodes for each piece, and so sixteen for each token.
pub record NumberBounds {A : Type 0} (p : Levelled A) : Type 0 where
  pub for_pieces : (s : State) (us : List Piece) (x : A) (w : IsTree p s us x) → w.after.next ≤ s.next + 8 * length us
  pub for_tokens : (s : State) (ts : List TokenTree) (x : A) (w : IsTree p s (pieces ts) x) → w.after.next ≤ s.next + 16 * length ts
