-- A source or a sink over a reader or a writer of std.
use Rattle.std.specs.Prelude.{ℕ, ◌≤◌, List, length, take, Option, Result, MatchResult}
use Rattle.std.specs.Io.KnownBytes.{Appends}

-- a reader or a writer, and how many errors it gave
pub record Counted (S : Type 0) : Type 0 where
  pub stream : S
  pub faults : ℕ

-- What the writer holds, where it tells it, grew by a front of the piece.
abbrev pub GrowsByFront : Option (List ℕ) → Option (List ℕ) → List ℕ → Type 0
GrowsByFront old new piece = (n : ℕ) × (n ≤ length piece) × Appends old new (take n piece)

-- What the writer holds, where it tells it, grew by exactly the piece; or the put failed, and it grew by a front of it.
abbrev pub PutGrows : {A E : Type 0} → Option (List ℕ) → Option (List ℕ) → Result A E → List ℕ → Type 0
PutGrows old new r piece = MatchResult r (λ _. Appends old new piece) (λ _. GrowsByFront old new piece)
