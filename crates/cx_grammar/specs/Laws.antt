-- The laws of the grammar. Each is of one production at each number of levels, as that of expressions in some context.
use Rattle.std.specs.Prelude.{◌≡◌, ◌≤◌, ◌⊎◌, ℕ, Bool, true, false, not, ◌||◌, codes, ◌+◌, ◌*◌, List, [], ◌∷◌, ◌++◌, length, Result, Ok, Err}
use Rattle.std.specs.List.{list_all}
use Rattle.cx_base.specs.Refusal.{Refusal, Passed}
use Rattle.cx_base.specs.declared.kind.Kind.TheVariants as fault
use Rattle.cx_base.specs.declared.limit.Limit.TheVariants as limits
use Rattle.cx_lexer.specs.Tokens.{TokenTree}
use Rattle.cx_tree.specs.Trees.{Mark}
use Rattle.cx_tree.specs.Nodes.{IsNumberedFrom}
use Rattle.cx_grammar.specs.Pieces.{Piece, is_double, pieces}
use Rattle.cx_grammar.specs.Words.{misfit, refused, word, is_punct_kind}
use Rattle.cx_grammar.specs.Production.{Production, Stopped, Ended, At}

abbrev pub Levelled : Type 0 → Type 1
Levelled A = ℕ → Production A

-- The pieces are a whole tree that gives x, its constructs nested however deep, with no load above the limit.
pub record IsTreeWithin {A : Type 0} (limit : ℕ) (p : Levelled A) (ts : List Piece) (x : A) : Type 0 where
  pub level : ℕ
  pub whole : (p level).whole limit ts [] x

-- The pieces are a partial or a whole tree.
pub record BeginsWithin {A : Type 0} (limit : ℕ) (p : Levelled A) (ts : List Piece) : Type 0 where
  pub level : ℕ
  pub front : (p level).front limit ts

-- ... whatever their loads.
abbrev pub IsTree : {A : Type 0} → Levelled A → List Piece → A → Type 0
IsTree p ts x = (limit : ℕ) × IsTreeWithin limit p ts x

abbrev pub Begins : {A : Type 0} → Levelled A → List Piece → Type 0
Begins p ts = (limit : ℕ) × BeginsWithin limit p ts

-- Of pieces the first ones are the most that begin a tree.
pub record Farthest {A : Type 0} (p : Levelled A) (ts us rest : List Piece) : Type 0 where
  pub split : ts ≡ us ++ rest
  pub begins : Begins p us
  pub most : (vs ws : List Piece) → ts ≡ vs ++ ws → Begins p vs → length vs ≤ length us

-- The fault at a piece that does not fit. Where requires-expressions are not read, the word that begins one is
-- unsupported.
abbrev pub IsFaultAt : Bool → Piece → Refusal → Type 0
IsFaultAt requires t r = (r ≡ misfit t.token) ⊎ ((requires ≡ false) × (word (codes "requires") t ≡ true) × (r ≡ refused fault.Unsupported t.token.at))

-- What a reader answers. It goes as far as the pieces begin a tree. Where those pieces are a tree, that is read; else
-- the next piece is the fault. The limit is passed at the first piece before the fault whose load is above it. Pieces
-- may also end before a tree does; those of a unit end with a token that is in no other tree.
pub data Answers {A : Type 0} (requires : Bool) (limit : ℕ) (p : Levelled A) (ts : List Piece) (r : Result (A × List Piece) Stopped) : Type 0 where
  Tree : (us rest : List Piece) (x : A) → r ≡ Ok (x, rest) → Farthest p ts us rest → IsTreeWithin limit p us x → Answers requires limit p ts r
  Fault : (us : List Piece) (t : Piece) (rest : List Piece) (q : Refusal) → r ≡ Err (At q) → IsFaultAt requires t q → Farthest p ts us (t ∷ rest) → BeginsWithin limit p us
      → ((x : A) → IsTree p us x → ⊥) → Answers requires limit p ts r
  TooDeep : (us : List Piece) (t : Piece) (rest : List Piece) → r ≡ Err (At (Passed limits.Depth t.token.at)) → ts ≡ us ++ t ∷ rest → BeginsWithin limit p us
      → Begins p (us ++ t ∷ []) → (BeginsWithin limit p (us ++ t ∷ []) → ⊥) → Answers requires limit p ts r
  Short : r ≡ Err Ended → BeginsWithin limit p ts → ((x : A) → IsTree p ts x → ⊥) → Answers requires limit p ts r

-- The laws of a production where a load is given, requires-expressions being read or not.
pub record GrammarLaws {A : Type 0} (requires : Bool) (load : ℕ) (p : Levelled A) : Type 0 where
  -- Pieces have at most one tree.
  pub one_tree : (ts : List Piece) (x y : A) → IsTree p ts x → IsTree p ts y → x ≡ y
  -- No pieces begin a tree, and so do those of a tree, and the first ones of those that do.
  pub none_begin : Begins p []
  pub trees_begin : (ts : List Piece) (x : A) → IsTree p ts x → Begins p ts
  pub first_begin : (us vs : List Piece) → Begins p (us ++ vs) → Begins p us
  -- So answers a reader that has two levels more than what the limit leaves above the load.
  pub answers : (limit level : ℕ) (ts : List Piece) → limit + 2 ≤ level + load → 2 ≤ level → Answers requires limit p ts ((p level).read limit ts)

-- A token that is spelled `>>` is a punctuator, as the lexer has it.
abbrev pub is_sound : TokenTree → Bool
is_sound t = not (is_double t) || is_punct_kind t.kind

-- Pieces of tokens, parted at a token.
pub record SplitTokens (ts : List TokenTree) (us rest : List Piece) : Type 0 where
  pub first : List TokenTree
  pub last : List TokenTree
  pub split : ts ≡ first ++ last
  pub firsts : us ≡ pieces first
  pub lasts : rest ≡ pieces last

-- The pieces of a tree are those of whole tokens.
abbrev pub WholeTokens : {A : Type 0} → Levelled A → Type 0
WholeTokens {A} p = (ts : List TokenTree) (us rest : List Piece) (x : A) → list_all is_sound ts ≡ true → pieces ts ≡ us ++ rest → IsTree p us x → SplitTokens ts us rest

-- The nodes of a tree are numbered from n on without a gap, each behind its parts, and m is the number of the next node:
-- at most 8 more for each piece, and 16 for each token.
pub record NumberLaws {A : Type 0} (nodes : A → List Mark) (n : ℕ) (p : Levelled (A × ℕ)) : Type 0 where
  pub numbered : (ts : List Piece) (x : A) (m : ℕ) → IsTree p ts (x, m) → IsNumberedFrom n (nodes x)
  pub next : (ts : List Piece) (x : A) (m : ℕ) → IsTree p ts (x, m) → m ≡ n + length (nodes x)
  pub for_pieces : (ts : List Piece) (x : A) (m : ℕ) → IsTree p ts (x, m) → m ≤ n + 8 * length ts
  pub for_tokens : (ts : List TokenTree) (x : A) (m : ℕ) → IsTree p (pieces ts) (x, m) → m ≤ n + 16 * length ts
