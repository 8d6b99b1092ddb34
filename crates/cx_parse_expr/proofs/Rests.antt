-- Reading the operators of one level after another, as a loop does.
use Rattle.std.proofs.Common.{◌≡◌, ℕ, zero, suc, ◌+◌, ◌-◌, ◌≤◌, List, Result, Ok, Err, refl, sym, subst, arith, add-one}
use Rattle.cx_base.specs.declared.stop.Stop.{Stop}
use Rattle.cx_base.specs.declared.stop.Stop.TheVariants as stop
use Rattle.cx_tree.specs.Trees.{ExprTree}
use Rattle.cx_grammar.specs.Pieces.{Piece}
use Rattle.cx_grammar.specs.Names.{Context}
use Rattle.cx_grammar.specs.Production.{Stopped, Stops}
use Rattle.cx_grammar.specs.Types.{Below, Numbered}
use Rattle.cx_grammar.specs.Expressions.{rests, binary_rest}

-- one level more
pub rests_more : (b : Below) (level : ℕ) (c : Context) (e left : Numbered ExprTree) (ts us : List Piece)
    → (rests b level c e).read 256 ts ≡ Ok (left, us) → (rests b (level + 1) c e).read 256 ts ≡ (binary_rest b level c left).read 256 us
unfolding rests
rests_more b level c e left ts us so_far = rw (add-one, so_far) refl

-- what fewer levels refuse, more levels refuse
rests_keep : (b : Below) (more level : ℕ) (c : Context) (e : Numbered ExprTree) (ts : List Piece) (x : Stopped)
    → (rests b level c e).read 256 ts ≡ Err x → (rests b (more + level) c e).read 256 ts ≡ Err x
unfolding rests
rests_keep b zero level c e ts x h =
    let none : level ≡ zero + level = omega arith in
    subst (λ (k : ℕ). (rests b k c e).read 256 ts ≡ Err x) none h
rests_keep b (suc more) level c e ts x h =
    let one : suc more + level ≡ suc (more + level) = omega arith in
    rw (one, rests_keep b more level c e ts x h) refl

rests_err : (b : Below) (level levels : ℕ) (c : Context) (e : Numbered ExprTree) (ts : List Piece) (x : Stopped)
    → level ≤ levels → (rests b level c e).read 256 ts ≡ Err x → (rests b levels c e).read 256 ts ≡ Err x
rests_err b level levels c e ts x within h =
    let same : (levels - level) + level ≡ levels = omega arith in
    subst (λ (k : ℕ). (rests b k c e).read 256 ts ≡ Err x) same (rests_keep b (levels - level) level c e ts x h)

pub rests_stop : (b : Below) (level levels : ℕ) (c : Context) (e : Numbered ExprTree) (ts : List Piece) (s : Stop)
    → level ≤ levels → Stops s ((rests b level c e).read 256 ts) → Stops s ((rests b levels c e).read 256 ts)
rests_stop b level levels c e ts stop.NoMemory within h = tt
rests_stop b level levels c e ts (stop.Fault f) within h = rests_err b level levels c e ts _ within h
rests_stop b level levels c e ts (stop.Limit l at) within h = rests_err b level levels c e ts _ within h

-- what the operators of one level refuse behind the tighter ones, all levels refuse
pub rests_fails : (b : Below) (level levels : ℕ) (c : Context) (e left : Numbered ExprTree) (ts us : List Piece) (s : Stop)
    → level + 1 ≤ levels → (rests b level c e).read 256 ts ≡ Ok (left, us) → Stops s ((binary_rest b level c left).read 256 us) → Stops s ((rests b levels c e).read 256 ts)
rests_fails b level levels c e left ts us s within so_far fails =
    rests_stop b (level + 1) levels c e ts s within (subst (λ (x : Result (Numbered ExprTree × List Piece) Stopped). Stops s x) (sym (rests_more b level c e left ts us so_far)) fails)
