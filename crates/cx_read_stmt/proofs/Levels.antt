-- What is read where no level is left.
use Rattle.std.proofs.Common.{◌≡◌, ℕ, zero, suc, true, false, arith, List, [], ◌∷◌, Err, refl}
use Rattle.cx_syntax.specs.declared.context.Context.{Context}
use Rattle.cx_syntax.specs.declared.stopped.Stopped.{Stopped}
use Rattle.cx_syntax.specs.declared.stopped.Stopped.TheVariants.{Ended, Exhausted}
use Rattle.cx_productions.specs.StatementTrees.{StmtTree}
use Rattle.cx_productions.specs.Units.{statement_levels}
use Rattle.cx_syntax.specs.States.{State}
use Rattle.cx_syntax.specs.Productions.{begins_with, read_closed}
use Rattle.cx_syntax.specs.Classes.{nothing, any_but}
use Rattle.cx_names.specs.Frames.{Frames}
use Rattle.cx_tokens.specs.Pieces.{Piece}

pub ended : {A : Type 0} (names : Frames) (left : List Piece) → begins_with (any_but nothing) names left ≡ false → read_closed {A = A} left ≡ Err Ended
unfolding begins_with read_closed nothing
ended names [] e = refl
ended names (t ∷ ts) e = absurd cc

pub exhausted : {A : Type 0} (names : Frames) (left : List Piece) → begins_with (any_but nothing) names left ≡ true → read_closed {A = A} left ≡ Err Exhausted
unfolding begins_with read_closed nothing
exhausted names [] e = absurd cc
exhausted names (t ∷ ts) e = refl

pub closed_stmt : (depth : ℕ) (c : Context) (s : State) (e : Stopped) → depth ≡ 0 → read_closed {A = StmtTree} s.left ≡ Err e → (statement_levels depth c).read s ≡ Err e
unfolding statement_levels
closed_stmt zero c s e d h = h
closed_stmt (suc n) c s e d h = absurd (omega arith)
