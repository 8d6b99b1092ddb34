-- What is shown of each production: what its reader gives, and which pieces are trees and beginnings.
use Rattle.std.proofs.Common.{codes, Bool, true, false, ◌≡◌, ℕ, ◌≤◌, List, [], ◌∷◌, ◌++◌, Result, Ok, Err}
use Rattle.cx_base.specs.Refusal.{Refusal, Passed}
use Rattle.cx_base.specs.declared.place.Place.{Place}
use Rattle.cx_base.specs.declared.limit.Limit.TheVariants as limits
use Rattle.cx_grammar.specs.Pieces.{Piece}
use Rattle.cx_base.specs.declared.kind.Kind.TheVariants as fault
use Rattle.cx_grammar.specs.Words.{misfit, refused, word}
use Rattle.cx_grammar.specs.Production.{Production, Stopped, Ended, Exhausted, At}

-- what a reader gives
abbrev pub Reading : Type 0 → Type 0
Reading A = Result (A × List Piece) Stopped

-- a reader that read a value read a tree
pub record Wholes {A : Type 0} (p : Production A) (l : ℕ) (ts : List Piece) (x : A) (rest : List Piece) : Type 0 where
  pub tree : List Piece
  pub split : ts ≡ tree ++ rest
  pub whole : p.whole l tree rest x

-- a reader that was not refused reached the end
pub data Finished {A : Type 0} (r : Reading A) : Type 0 where
  Ends : r ≡ Err Ended → Finished r
  Gives : (x : A) → r ≡ Ok (x, []) → Finished r

-- a token is refused since it does not fit, since what it begins is not read yet, or since its load passes the limit;
-- then it fits under a greater one
pub data Why (requires : Bool) {A : Type 0} (p : Production A) (l : ℕ) (us : List Piece) (t : Piece) (r : Refusal) : Type 0 where
  Misfits : r ≡ misfit t.token → Why requires p l us t r
  Unread : requires ≡ false → word (codes "requires") t ≡ true → r ≡ refused fault.Unsupported t.token.at → Why requires p l us t r
  Passes : (l' : ℕ) → l ≤ l' → r ≡ Passed limits.Depth t.token.at → p.front l' (us ++ t ∷ []) → Why requires p l us t r

-- a refusal stands at a token, whatever stands behind it, and the pieces before it are a beginning
pub record Refuses (requires : Bool) {A : Type 0} (p : Production A) (l : ℕ) (ts : List Piece) (r : Refusal) : Type 0 where
  pub front : List Piece
  pub next : Piece
  pub behind : List Piece
  pub split : ts ≡ front ++ next ∷ behind
  pub begun : p.front l front
  pub always : (rest : List Piece) → p.read l (front ++ next ∷ rest) ≡ Err (At r)
  pub why : Why requires p l front next r

-- under a greater limit all is read alike, but for what the lower one refuses
pub data Widened {A : Type 0} (low high : Reading A) : Type 0 where
  Wide : high ≡ low → Widened low high
  Deep : (at : Place) → low ≡ Err (At (Passed limits.Depth at)) → Widened low high

pub record Lawful (requires : Bool) {A : Type 0} (p : Production A) : Type 0 where
  pub starts : (l : ℕ) → p.front l []
  pub sound : (l : ℕ) (ts : List Piece) (x : A) (rest : List Piece) → p.read l ts ≡ Ok (x, rest) → Wholes p l ts x rest
  pub complete : (l : ℕ) (us rest : List Piece) (x : A) → p.whole l us rest x → p.read l (us ++ rest) ≡ Ok (x, rest)
  pub whole_front : (l : ℕ) (us rest : List Piece) (x : A) → p.whole l us rest x → p.front l us
  pub begun : (l : ℕ) (ts : List Piece) → p.front l ts → Finished (p.read l ts)
  pub ended : (l : ℕ) (ts : List Piece) → p.read l ts ≡ Err Ended → p.front l ts
  pub ahead : (l : ℕ) (us : List Piece) (t : Piece) (rest rest' : List Piece) (x : A) → p.read l (us ++ t ∷ rest) ≡ Ok (x, t ∷ rest) → p.read l (us ++ t ∷ rest') ≡ Ok (x, t ∷ rest')
  pub stops : (l : ℕ) (ts : List Piece) (r : Refusal) → p.read l ts ≡ Err (At r) → Refuses requires p l ts r
  pub spent : (l : ℕ) (ts vs : List Piece) → p.read l ts ≡ Err Exhausted → p.read l (ts ++ vs) ≡ Err Exhausted
  pub widens : (l l' : ℕ) (ts : List Piece) → l ≤ l' → Widened (p.read l ts) (p.read l' ts)

-- a reader goes on deeper: where the first is not exhausted the second gives the same, or a value where the pieces end
pub data Agrees {A : Type 0} (low high : Reading A) : Type 0 where
  Spent : low ≡ Err Exhausted → Agrees low high
  Same : high ≡ low → Agrees low high
  Further : (x : A) → low ≡ Err Ended → high ≡ Ok (x, []) → Agrees low high

-- one production at a lower and at a higher level
pub record Grows (requires : Bool) {A : Type 0} (p q : Production A) : Type 0 where
  pub low : Lawful requires p
  pub high : Lawful requires q
  pub agrees : (l : ℕ) (ts : List Piece) → Agrees (p.read l ts) (q.read l ts)
