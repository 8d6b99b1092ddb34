-- A sink into memory.
use Rattle.std.specs.Prelude.{ℕ, ◌-◌, ◌+◌, ◌<◌, ◌==◌, ◌⊎◌, List, length, min, find, Option, IsSome, unwrap_or}
use Rattle.std.specs.Option.{option_map}
use Rattle.cx_io.specs.Count.{one_more}

pub record SinkState : Type 0 where
  -- the bytes that were taken
  pub bytes : List ℕ
  -- how many bytes it has room for
  pub room : ℕ
  -- how many puts there were
  pub calls : ℕ
  -- how many of them failed
  pub faults : ℕ
  -- the numbers of the puts that fail, counted from 1, each with the number of bytes that it still takes
  pub fails : List (ℕ × ℕ)

-- what the list says of the put with this number, where it lists it: the first entry counts
abbrev pub listed : List (ℕ × ℕ) → ℕ → Option ℕ
listed fails number = option_map (λ entry. entry.1) (find (λ entry. entry.0 == number) fails)

-- what the list says of the next put
abbrev pub next_listed : SinkState → Option ℕ
next_listed s = listed s.fails (one_more s.calls)

-- the next put fails: it is listed, or its piece passes the room
abbrev pub MustFail : SinkState → List ℕ → Type 0
MustFail s piece = IsSome (next_listed s) ⊎ (s.room < length s.bytes + length piece)

-- how many bytes of its piece the next put takes: as many as the list says, and no more than fit
abbrev pub taken : SinkState → List ℕ → ℕ
taken s piece = min (unwrap_or (next_listed s) (length piece)) (s.room - length s.bytes)
