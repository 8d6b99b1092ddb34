-- What it is for a run to add no steps.
use Rattle.std.specs.Prelude.{ℕ, ◌≤◌}
use Rattle.cx_machine.specs.Machine.{State, Outcome, Done, Undefined, Running, Run}

-- an outcome with at most so many steps left
abbrev pub Within : {A : Type 0} → ℕ → Outcome A → Type 0
Within n (Done x s) = s.left ≤ n
Within n (Undefined printed) = Unit {0}
Within n (Running printed) = Unit {0}

abbrev pub AddsNoSteps : {A : Type 0} → Run A → Type 0
AddsNoSteps run = (s : State) → Within s.left (run s)
