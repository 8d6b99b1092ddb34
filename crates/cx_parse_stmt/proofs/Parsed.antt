-- What a parser answers, in the words of trees.
use Rattle.std.proofs.Common.{◌≡◌, ℕ, List, Result, Ok, subst}
use Rattle.cx_grammar.specs.Pieces.{Piece}
use Rattle.cx_grammar.specs.Production.{Stopped}

-- what is read at a number and of pieces is read at the same ones
pub moved : {R : Type 0} (P : R → Type 0) (g : ℕ → List Piece → R) (n m : ℕ) (ts us : List Piece) → n ≡ m → ts ≡ us → P (g n ts) → P (g m us)
moved P g n m ts us f h x = subst (λ (z : ℕ). P (g z us)) f (subst (λ (z : List Piece). P (g n z)) h x)

pub read_there : {A : Type 0} (g : ℕ → List Piece → Result (A × List Piece) Stopped) (n m : ℕ) (ts us : List Piece) (x : A) (left : List Piece)
    → n ≡ m → ts ≡ us → g n ts ≡ Ok (x, left) → g m us ≡ Ok (x, left)
read_there {A = A} g n m ts us x left f h e = moved (λ (r : Result (A × List Piece) Stopped). r ≡ Ok (x, left)) g n m ts us f h e

-- ... and the same pieces are left
pub left_there : {A : Type 0} (r : Result (A × List Piece) Stopped) (x : A) (left us : List Piece) → left ≡ us → r ≡ Ok (x, left) → r ≡ Ok (x, us)
left_there r x left us h e = subst (λ (z : List Piece). r ≡ Ok (x, z)) h e
