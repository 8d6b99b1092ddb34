-- The two halves of `>>` ([temp.names]).
use Rattle.std.specs.Prelude.{◌≡◌, List, ◌++◌}
use Rattle.cx_tokens.specs.Tokens.{TokenTree}
use Rattle.cx_tokens.specs.Pieces.{Piece, pieces}
use Rattle.cx_syntax.specs.States.{State}
use Rattle.cx_syntax_laws.specs.GrammarLaws.{Levelled, IsTree}

-- Pieces of tokens, parted at a token.
pub record SplitTokens (ts : List TokenTree) (us rest : List Piece) : Type 0 where
  pub first : List TokenTree
  pub last : List TokenTree
  pub split : ts ≡ first ++ last
  pub firsts : us ≡ pieces first
  pub lasts : rest ≡ pieces last

-- The pieces of a tree are those of whole tokens: no tree ends between the halves of `>>`.
abbrev pub WholeTokens : {A : Type 0} → Levelled A → Type 0
WholeTokens {A} p = (s : State) (ts : List TokenTree) (us rest : List Piece) (x : A) → pieces ts ≡ us ++ rest → IsTree p s us x → SplitTokens ts us rest
