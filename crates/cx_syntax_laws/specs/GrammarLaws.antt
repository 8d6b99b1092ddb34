-- The laws of the grammar. Each is of one production at each number of levels, as that of expressions in some context,
-- and of a state in which it is read: the number of the next node, and the names that are known.
use Rattle.std.specs.Prelude.{◌≡◌, ◌≤◌, ℕ, IsTrue, false, List, [], ◌∷◌, ◌++◌, length, Result, Ok, Err}
use Rattle.cx_tokens.specs.Pieces.{Piece, is_word}
use Rattle.cx_tokens.specs.declared.word.Word.TheVariants as word
use Rattle.cx_syntax.specs.declared.stopped.Stopped.{Stopped}
use Rattle.cx_syntax.specs.declared.stopped.Stopped.TheVariants.{Ended, Deep}
use Rattle.cx_syntax.specs.States.{State, cut, freed, misfit}
use Rattle.cx_syntax.specs.Productions.{Production}

abbrev pub Levelled : Type 0 → Type 1
Levelled A = ℕ → Production A

-- The pieces are a whole tree that gives x, no construct nested deeper than the state allows.
pub record IsTreeWithin {A : Type 0} (p : Levelled A) (s : State) (us : List Piece) (x : A) : Type 0 where
  pub level : ℕ
  pub after : State
  pub whole : (p level).whole (cut s us) x after
  pub all : after.left ≡ []

-- The pieces are a partial or a whole tree.
pub record BeginsWithin {A : Type 0} (p : Levelled A) (s : State) (us : List Piece) : Type 0 where
  pub level : ℕ
  pub front : (p level).front (cut s us)

-- ... its constructs nested however deep.
abbrev pub IsTree : {A : Type 0} → Levelled A → State → List Piece → A → Type 0
IsTree p s us x = IsTreeWithin p (freed s) us x

abbrev pub Begins : {A : Type 0} → Levelled A → State → List Piece → Type 0
Begins p s us = BeginsWithin p (freed s) us

-- Of the pieces of a state the first ones are the most that begin a tree.
pub record Farthest {A : Type 0} (p : Levelled A) (s : State) (us rest : List Piece) : Type 0 where
  pub split : s.left ≡ us ++ rest
  pub begins : Begins p s us
  pub most : (vs ws : List Piece) → s.left ≡ vs ++ ws → Begins p s vs → length vs ≤ length us

-- What a reader answers. It goes as far as the pieces begin a tree. Where those pieces are a tree, that is read; else
-- the next piece is the fault. The limit of depth is passed at the first piece before the fault that is nested too deep.
-- Pieces may also end before a tree does; those of a unit end with a token that is in no other tree.
pub data Answers {A : Type 0} (p : Levelled A) (s : State) (r : Result (A × State) Stopped) : Type 0 where
  Tree : (us rest : List Piece) (x : A) → Farthest p s us rest → (w : IsTreeWithin p s us x) → r ≡ Ok (x, cut w.after rest) → Answers p s r
  Misfit : (us : List Piece) (t : Piece) (rest : List Piece) → r ≡ Err (misfit t.token) → Farthest p s us (t ∷ rest) → BeginsWithin p s us
      → ((x : A) → IsTree p s us x → ⊥) → Answers p s r
  Passed : (us : List Piece) (t : Piece) (rest : List Piece) → r ≡ Err (Deep t.token.at) → s.left ≡ us ++ t ∷ rest → BeginsWithin p s us
      → Begins p s (us ++ t ∷ []) → (BeginsWithin p s (us ++ t ∷ []) → ⊥) → Answers p s r
  -- `void` at the front of parameters is a type, but where `)` stands after it: how deep it is shows with the next piece
  PassedBefore : (us : List Piece) (v t : Piece) (rest : List Piece) → r ≡ Err (Deep v.token.at) → s.left ≡ us ++ v ∷ t ∷ rest → IsTrue (is_word word.Void v.token.kind)
      → BeginsWithin p s (us ++ v ∷ []) → (BeginsWithin p s (us ++ v ∷ t ∷ []) → ⊥) → ((x : A) → IsTree p s (us ++ v ∷ []) x → ⊥) → Answers p s r
  Short : r ≡ Err Ended → BeginsWithin p s s.left → ((x : A) → IsTree p s s.left x → ⊥) → Answers p s r

-- The laws of a production that so many levels are enough for.
pub record GrammarLaws {A : Type 0} (least : ℕ) (p : Levelled A) : Type 0 where
  -- Pieces have at most one tree.
  pub one_tree : (s : State) (us : List Piece) (x y : A) → IsTree p s us x → IsTree p s us y → x ≡ y
  -- No pieces begin a tree, and so do those of a tree, and the first ones of those that do.
  pub none_begin : (s : State) → Begins p s []
  pub trees_begin : (s : State) (us : List Piece) (x : A) → IsTree p s us x → Begins p s us
  pub first_begin : (s : State) (us vs : List Piece) → Begins p s (us ++ vs) → Begins p s us
  -- So answers a reader that has levels enough.
  pub answers : (s : State) (level : ℕ) → s.free ≡ false → least ≤ level → Answers p s ((p level).read s)
