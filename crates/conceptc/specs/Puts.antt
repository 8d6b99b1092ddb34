-- What putting a text on a sink comes to, in one put or in several.
use Rattle.std.specs.Prelude.{ℕ, ◌≤◌, List, Option, Result}
use Rattle.cx_io.specs.Sink.{PutAppends}
use Rattle.cx_io.specs.Source.{HasCause}

-- The sink took the text, or a front of it and failed, which only a count that rose explains.
pub record PutsText {A E : Type 0} (old new : Option (List ℕ)) (before now : ℕ) (r : Result A E) (text : List ℕ) : Type 0 where
  pub bytes : PutAppends old new r text
  pub counted : before ≤ now
  pub cause : HasCause before now r
