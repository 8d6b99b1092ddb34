-- What the reader of one production after the other gives.
use Rattle.std.proofs.Common.{◌≡◌, ℕ, List, Result, Ok, refl, sym, subst}
use Rattle.cx_base.specs.declared.stop.Stop.{Stop}
use Rattle.cx_base.specs.declared.stop.Stop.TheVariants as stop
use Rattle.cx_tree.specs.Trees.{ExprTree}
use Rattle.cx_grammar.specs.Pieces.{Piece}
use Rattle.cx_grammar.specs.Production.{Stopped, Stops, ◌>>>◌}
use Rattle.cx_grammar.specs.Names.{Context, inside}
use Rattle.cx_grammar.specs.Types.{Numbered}
use Rattle.cx_spots.specs.Spots.{at, below}

-- what the first one refuses
pub stops_first : {A B : Type 0} (r : Result A Stopped) (f : A → Result B Stopped) (e : Stop) → Stops e r → Stops e (r >>> f)
stops_first r f stop.NoMemory h = tt
stops_first r f (stop.Fault x) h = rw h refl
stops_first r f (stop.Limit l at) h = rw h refl

-- what the second one refuses
pub stops_then : {A B : Type 0} (r : Result A Stopped) (x : A) (f : A → Result B Stopped) (e : Stop) → r ≡ Ok x → Stops e (f x) → Stops e (r >>> f)
stops_then {A = A} r x f e first h = subst (λ (z : Result A Stopped). Stops e (z >>> f)) (sym first) h

-- what both give
pub reads_then : {A B : Type 0} (r : Result A Stopped) (x : A) (f : A → Result B Stopped) (total : Result B Stopped) → r ≡ Ok x → f x ≡ total → r >>> f ≡ total
reads_then {A = A} r x f total first h = subst (λ (z : Result A Stopped). z >>> f ≡ total) (sym first) h

-- an expression in brackets
pub asked_inside : (P : Result (Numbered ExprTree × List Piece) Stopped → Type 0) (k c : Context) (n m : ℕ) (ts : List Piece)
    → k ≡ inside c → n ≡ m → P (((at k).expr k n).read 256 ts) → P (((below c).expr (inside c) m).read 256 ts)
asked_inside P k c n m ts e same h =
    subst (λ (y : ℕ). P (((below c).expr (inside c) y).read 256 ts)) same (subst (λ (x : Context). P (((at x).expr x n).read 256 ts)) e h)
