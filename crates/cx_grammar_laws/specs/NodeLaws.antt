-- The laws of node numbers of productions that declare names, and of units.
use Rattle.std.specs.Prelude.{◌≡◌, ◌≤◌, ℕ, ◌+◌, ◌*◌, List, length}
use Rattle.cx_lexer.specs.Tokens.{TokenTree}
use Rattle.cx_scope.specs.Frames.{Frames}
use Rattle.cx_tree.specs.Trees.{Mark}
use Rattle.cx_tree.specs.Declarations.{DeclTree}
use Rattle.cx_tree.specs.Nodes.{IsNumberedFrom}
use Rattle.cx_grammar.specs.Pieces.{Piece, pieces}
use Rattle.cx_grammar.specs.Types.{Named}
use Rattle.cx_grammar.specs.Laws.{Levelled, IsTree}
use Rattle.cx_tree.specs.UnitNodes.{unit_nodes}

-- The nodes of a tree are numbered from n on without a gap, each behind its parts, and m is the number of the next node:
-- at most 8 more for each piece, and 16 for each token. The tree comes with the names that are declared behind it.
pub record NamedNumberLaws {A : Type 0} (nodes : A → List Mark) (n : ℕ) (p : Levelled (Named A)) : Type 0 where
  pub numbered : (ts : List Piece) (x : A) (m : ℕ) (names : Frames) → IsTree p ts (x, m, names) → IsNumberedFrom n (nodes x)
  pub next : (ts : List Piece) (x : A) (m : ℕ) (names : Frames) → IsTree p ts (x, m, names) → m ≡ n + length (nodes x)
  pub for_pieces : (ts : List Piece) (x : A) (m : ℕ) (names : Frames) → IsTree p ts (x, m, names) → m ≤ n + 8 * length ts
  pub for_tokens : (ts : List TokenTree) (x : A) (m : ℕ) (names : Frames) → IsTree p (pieces ts) (x, m, names) → m ≤ n + 16 * length ts

-- The nodes of a unit are numbered from 0 on without a gap, each behind its parts: at most 8 for each piece, and 16 for
-- each token.
pub record UnitNumberLaws (p : Levelled (List DeclTree)) : Type 0 where
  pub numbered : (ts : List Piece) (x : List DeclTree) → IsTree p ts x → IsNumberedFrom 0 (unit_nodes x)
  pub for_pieces : (ts : List Piece) (x : List DeclTree) → IsTree p ts x → length (unit_nodes x) ≤ 8 * length ts
  pub for_tokens : (ts : List TokenTree) (x : List DeclTree) → IsTree p (pieces ts) x → length (unit_nodes x) ≤ 16 * length ts
