-- What it is for a call to read a production.
use Rattle.std.specs.Prelude.{◌≡◌, ◌≢◌, Result, Ok, Err}
use Rattle.cx_syntax.specs.declared.stopped.Stopped.{Stopped}
use Rattle.cx_syntax.specs.declared.stopped.Stopped.TheVariants as stopped
use Rattle.cx_syntax.specs.States.{State, Reading}
use Rattle.cx_syntax.specs.Productions.{Production}

-- what a call gave, with its value seen by view, and the state that it left
abbrev pub outcome : {X A : Type 0} → (X → A) → Result X Stopped → State → Reading A
outcome view (Ok x) new = Ok (view x, new)
outcome view (Err e) new = Err e

-- What the call gave, and the state that it left, are what the production's reader gives for the state before it. Want
-- of memory is free.
abbrev pub Reads : {X A : Type 0} → (X → A) → Production A → State → Result X Stopped → State → Type 0
Reads view p old result new = result ≢ Err stopped.NoMemory → p.read old ≡ outcome view result new
