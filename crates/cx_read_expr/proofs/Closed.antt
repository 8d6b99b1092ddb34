-- What is read where the levels are spent.
use Rattle.std.proofs.Common.{◌≡◌, ℕ, zero, suc, true, false, List, [], ◌∷◌, Err, refl, arith}
use Rattle.cx_syntax.specs.declared.context.Context.{Context}
use Rattle.cx_syntax.specs.States.{State}
use Rattle.cx_productions.specs.Levels.{levels}
use Rattle.cx_tokens.specs.Pieces.{Piece}
use Rattle.cx_names.specs.Frames.{Frames}
use Rattle.cx_syntax.specs.declared.stopped.Stopped.{Stopped}
use Rattle.cx_syntax.specs.declared.stopped.Stopped.TheVariants.{Ended, Exhausted}
use Rattle.cx_syntax.specs.Classes.{any_but, nothing}
use Rattle.cx_syntax.specs.Productions.{begins_with, read_closed}

pub closed_more : (names : Frames) (left : List Piece) → begins_with (any_but nothing) names left ≡ true → Err Exhausted ≡ read_closed {A = Unit {0}} left
unfolding begins_with read_closed
closed_more names [] e = cc
closed_more names (t ∷ ts) e = refl

pub closed_none : (names : Frames) (left : List Piece) → begins_with (any_but nothing) names left ≡ false → Err Ended ≡ read_closed {A = Unit {0}} left
unfolding begins_with read_closed nothing
closed_none names [] e = refl
closed_none names (t ∷ ts) e = cc

-- it is the same for any value
pub closed_as : {A : Type 0} (left : List Piece) (e : Stopped) → Err e ≡ read_closed {A = Unit {0}} left → read_closed {A = A} left ≡ Err e
unfolding read_closed
closed_as [] e d = let same : e ≡ Ended = cc in rw same refl
closed_as (t ∷ ts) e d = let same : e ≡ Exhausted = cc in rw same refl

pub closed_expr : (depth level : ℕ) (c : Context) (s : State) (e : Stopped) → depth ≡ 0 → Err e ≡ read_closed {A = Unit {0}} s.left → ((levels depth).expr level c).read s ≡ Err e
unfolding levels
closed_expr zero level c s e d h = closed_as s.left e h
closed_expr (suc n) level c s e d h = absurd (omega arith)

pub closed_argument : (depth : ℕ) (c : Context) (s : State) (e : Stopped) → depth ≡ 0 → Err e ≡ read_closed {A = Unit {0}} s.left → ((levels depth).argument c).read s ≡ Err e
unfolding levels
closed_argument zero c s e d h = closed_as s.left e h
closed_argument (suc n) c s e d h = absurd (omega arith)
