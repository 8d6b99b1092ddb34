-- What a put does to the bytes that a sink has taken, where it tells them. A sink that tells none goes on so.
use Rattle.std.specs.Prelude.{◌≡◌, ℕ, List, ◌++◌, take, Option, Result, MatchResult}
use Rattle.std.specs.Option.{option_map}

-- what is written now is what was written, and then the piece
abbrev pub Appends : Option (List ℕ) → Option (List ℕ) → List ℕ → Type 0
Appends old new piece = new ≡ option_map (λ written. written ++ piece) old

-- a front of the piece was appended: nothing, or a part of it, or all of it
abbrev pub AppendsFront : Option (List ℕ) → Option (List ℕ) → List ℕ → Type 0
AppendsFront old new piece = (n : ℕ) × Appends old new (take n piece)

-- a put appended the piece, or failed behind a front of it
abbrev pub PutAppends : {A E : Type 0} → Option (List ℕ) → Option (List ℕ) → Result A E → List ℕ → Type 0
PutAppends old new r piece = MatchResult r (λ _. Appends old new piece) (λ _. AppendsFront old new piece)
