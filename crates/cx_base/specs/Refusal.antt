-- Why a definition has no value, and what it is for a call to answer a definition.
use Rattle.std.specs.Prelude.{◌≡◌, Result, Ok, Err}
use Rattle.cx_base.specs.declared.fault.Fault.{Fault}
use Rattle.cx_base.specs.declared.limit.Limit.{Limit}
use Rattle.cx_base.specs.declared.place.Place.{Place}
use Rattle.cx_base.specs.declared.stop.Stop.{Stop}
use Rattle.cx_base.specs.declared.stop.Stop.TheVariants as stop

-- a fault of the unit, or a limit that it passes at a place
pub data Refusal : Type 0 where
  Refused : Fault → Refusal
  Passed : Limit → Place → Refusal

-- one stage after another: the first that refuses is the answer
infixl 10 ◌>>=◌
abbrev pub ◌>>=◌ : {A B : Type 0} → Result A Refusal → (A → Result B Refusal) → Result B Refusal
(Ok x) >>= f = f x
(Err e) >>= f = Err e

-- A call stopped as the definition says. Want of memory is free.
abbrev pub Stops : {A : Type 0} → Stop → Result A Refusal → Type 0
Stops stop.NoMemory meant = Unit {0}
Stops (stop.Fault f) meant = meant ≡ Err (Refused f)
Stops (stop.Limit l at) meant = meant ≡ Err (Passed l at)

-- A call answered the definition: its value, seen by view, or its refusal, or memory ran out.
abbrev pub Gives : {X A : Type 0} → (X → A) → Result X Stop → Result A Refusal → Type 0
Gives view (Ok x) meant = meant ≡ Ok (view x)
Gives view (Err e) meant = Stops e meant
