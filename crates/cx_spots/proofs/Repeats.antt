-- Reading a production again and again, as a loop does.
use Rattle.std.proofs.Common.{◌≡◌, ℕ, zero, suc, ◌+◌, ◌<◌, ◌≤◌, Bool, true, false, List, [], ◌∷◌, length, Result, Ok, Err, refl, sym, ap, ◌∙◌, arith}
use Rattle.cx_base.specs.Refusal.{Refused, Passed}
use Rattle.cx_base.specs.declared.stop.Stop.{Stop}
use Rattle.cx_base.specs.declared.stop.Stop.TheVariants as stop
use Rattle.cx_grammar.specs.Pieces.{Piece}
use Rattle.cx_grammar.specs.Production.{Production, Stopped, At, Stops, begins, times, repeat}

-- before the first step
pub repeat_begins : {A : Type 0} (p : Piece → Bool) (step : A → Production A) (x : A) (ts : List Piece)
    → (n : ℕ) × (length ts ≤ n) × ((times (suc n) p step x).read 256 ts ≡ (repeat p step x).read 256 ts)
repeat_begins p step x ts = (length ts, omega arith, refl)

-- one step more
pub repeat_more : {A : Type 0} (p : Piece → Bool) (step : A → Production A) (n : ℕ) (x y : A) (ts us : List Piece) (total : Result (A × List Piece) Stopped)
    → length ts ≤ n → begins p ts ≡ true → (step x).read 256 ts ≡ Ok (y, us) → length us < length ts → (times (suc n) p step x).read 256 ts ≡ total
    → (m : ℕ) × (length us ≤ m) × ((times (suc m) p step y).read 256 us ≡ total)
repeat_more p step zero x y ts us total room more e shorter so_far = absurd (omega arith)
repeat_more p step (suc m) x y ts us total room more e shorter so_far =
    let one : (times (suc (suc m)) p step x).read 256 ts ≡ (times (suc m) p step y).read 256 us = rw (more, e) refl in
    (m, omega arith, sym one ∙ so_far)

-- what one step refuses, all refuse
pub repeat_fails : {A : Type 0} (p : Piece → Bool) (step : A → Production A) (n : ℕ) (x : A) (ts : List Piece) (total : Result (A × List Piece) Stopped) (e : Stop)
    → begins p ts ≡ true → Stops e ((step x).read 256 ts) → (times (suc n) p step x).read 256 ts ≡ total → Stops e total
repeat_fails p step n x ts total stop.NoMemory more fails so_far = tt
repeat_fails p step n x ts total (stop.Fault f) more fails so_far = sym so_far ∙ rw (more, fails) refl
repeat_fails p step n x ts total (stop.Limit l at) more fails so_far = sym so_far ∙ rw (more, fails) refl

-- no step more
pub repeat_ends : {A : Type 0} (p : Piece → Bool) (step : A → Production A) (n : ℕ) (x : A) (ts : List Piece) (total : Result (A × List Piece) Stopped)
    → begins p ts ≡ false → (times (suc n) p step x).read 256 ts ≡ total → total ≡ Ok (x, ts)
repeat_ends p step n x ts total end so_far = sym so_far ∙ rw end refl
