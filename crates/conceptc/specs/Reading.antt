-- What reading the input comes to.
use Rattle.std.specs.Prelude.{◌≡◌, ℕ, ◌≤◌, ◌<◌, Bool, true, false, List, [], ◌++◌, length, Option, Result, Ok, Err}
use Rattle.std.specs.Global.{Vec}
use Rattle.cx_io.specs.Count.{Rose}
use Rattle.cx_io.specs.Source.{Consumes, IsAtEnd}
use Rattle.conceptc.specs.Verdict.{source_limit}
use Rattle.conceptc.specs.declared.unread.Unread.{Unread}
use Rattle.conceptc.specs.declared.unread.Unread.TheVariants.{TooLong, Faulty, OutOfMemory}

-- these bytes were read, and nothing is left
abbrev pub ReadsWhole : Option (List ℕ) → Option (List ℕ) → List ℕ → Type 0
ReadsWhole old new bytes = Consumes old new bytes × IsAtEnd new × (length bytes ≤ source_limit)

-- more bytes were read than a unit may have
abbrev pub ReadsTooMuch : Option (List ℕ) → Option (List ℕ) → Type 0
ReadsTooMuch old new = (bytes : List ℕ) × Consumes old new bytes × (source_limit < length bytes)

-- why the input was not read
abbrev pub IsUnread : Option (List ℕ) → Option (List ℕ) → ℕ → ℕ → Unread → Type 0
IsUnread old new before now TooLong = ReadsTooMuch old new
IsUnread old new before now Faulty = Rose before now
IsUnread old new before now OutOfMemory = Unit {0}

abbrev pub ReadsInput : Option (List ℕ) → Option (List ℕ) → ℕ → ℕ → Result (Vec ℕ) Unread → Type 0
ReadsInput old new before now (Ok text) = ReadsWhole old new text.items
ReadsInput old new before now (Err why) = IsUnread old new before now why

-- a piece was put behind the text, an empty one at the end alone
abbrev pub ReadsPiece : Option (List ℕ) → Option (List ℕ) → List ℕ → List ℕ → Bool → Type 0
ReadsPiece old new text more true = (piece : List ℕ) × Consumes old new piece × (more ≡ text ++ piece) × (length more ≤ source_limit) × (length text < length more)
ReadsPiece old new text more false = Consumes old new [] × IsAtEnd new × (more ≡ text)

-- with the piece the bytes are more than a unit may have
abbrev pub PassesLimit : Option (List ℕ) → Option (List ℕ) → List ℕ → Type 0
PassesLimit old new text = (piece : List ℕ) × Consumes old new piece × (source_limit < length (text ++ piece))

abbrev pub PieceIsUnread : Option (List ℕ) → Option (List ℕ) → ℕ → ℕ → List ℕ → Unread → Type 0
PieceIsUnread old new before now text TooLong = PassesLimit old new text
PieceIsUnread old new before now text Faulty = Rose before now
PieceIsUnread old new before now text OutOfMemory = Unit {0}

abbrev pub ReadsMore : Option (List ℕ) → Option (List ℕ) → ℕ → ℕ → List ℕ → List ℕ → Result Bool Unread → Type 0
ReadsMore old new before now text more (Ok goes_on) = ReadsPiece old new text more goes_on
ReadsMore old new before now text more (Err why) = PieceIsUnread old new before now text why
