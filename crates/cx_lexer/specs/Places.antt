-- Places: functions of the bytes before them.
use Rattle.std.specs.Prelude.{ℕ, ◌+◌, Bool, not, ◌==◌, if◌then◌else◌, List, [], ◌∷◌, take}
use Rattle.std.specs.List.{count_by, suffix_len}
use Rattle.cx_base.specs.declared.place.Place.{Place}

-- The line of the byte behind some bytes: one more than the bytes 0A among them.
abbrev pub line_behind : List ℕ → ℕ
line_behind before = count_by (λ b. b == 10) before + 1

-- Its column: one more than the bytes since the last 0A.
abbrev pub column_behind : List ℕ → ℕ
column_behind before = suffix_len (λ b. not (b == 10)) before + 1

-- The place of the byte behind some bytes.
unfoldable pub place_of : List ℕ → Place
place_of before = record { line = line_behind before; col = column_behind before }

-- Whether a place begins a line.
abbrev pub begins_line : Place → Bool
begins_line at = at.col == 1

-- The place of a unit's byte at an offset.
abbrev pub place_at : List ℕ → ℕ → Place
place_at bytes offset = place_of (take offset bytes)

-- ---- the same step by step

-- The place behind a byte: 0A ends a line, and every other byte takes a column.
abbrev pub behind : Place → ℕ → Place
behind at b = if b == 10 then record { line = at.line + 1; col = 1 } else record { line = at.line; col = at.col + 1 }

-- The place behind some bytes that begin at a place.
abbrev pub place_behind : Place → List ℕ → Place
place_behind at [] = at
place_behind at (b ∷ bs) = place_behind (behind at b) bs

-- Where a unit begins.
abbrev pub start : Place
start = record { line = 1; col = 1 }
