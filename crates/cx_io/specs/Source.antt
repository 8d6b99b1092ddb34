-- What a read does to the bytes that a source has left, where it tells them. A source that tells none goes on so.
use Rattle.std.specs.Prelude.{◌≡◌, ℕ, ◌≤◌, List, [], ◌++◌, length, take, Option, Some, Result, IfOk, OnErr, IfSome, MatchResult}
use Rattle.std.specs.Option.{option_map}
use Rattle.cx_io.specs.Count.{Rose}

-- what was left is these bytes, and then what is left now
abbrev pub Consumes : Option (List ℕ) → Option (List ℕ) → List ℕ → Type 0
Consumes old new bytes = old ≡ option_map (λ left. bytes ++ left) new

-- nothing is left, as far as it is told
abbrev pub IsAtEnd : Option (List ℕ) → Type 0
IsAtEnd rest = IfSome rest (λ left. left ≡ [])

-- none is read where none is left
abbrev pub IsZeroAtEnd : {E : Type 0} → Option (List ℕ) → Result ℕ E → Type 0
IsZeroAtEnd rest r = IfOk r (λ n. rest ≡ Some [] → n ≡ 0)

-- and there only
abbrev pub IsZeroThereOnly : {E : Type 0} → Option (List ℕ) → Result ℕ E → Type 0
IsZeroThereOnly rest r = IfOk r (λ n. n ≡ 0 → IsAtEnd rest)

-- what is read lies in the buffer
abbrev pub ReadsAtMost : {E : Type 0} → Result ℕ E → List ℕ → Type 0
ReadsAtMost r buf = IfOk r (λ n. n ≤ length buf)

-- a read moved the bytes at the front of the buffer out of what was left, or failed and left it as it was
abbrev pub ReadConsumes : {E : Type 0} → Option (List ℕ) → Option (List ℕ) → Result ℕ E → List ℕ → Type 0
ReadConsumes old new r buf = MatchResult r (λ n. Consumes old new (take n buf)) (λ _. new ≡ old)

-- a failure comes only where the count of faults rose
abbrev pub HasCause : {A E : Type 0} → ℕ → ℕ → Result A E → Type 0
HasCause before now r = OnErr r (Rose before now)
