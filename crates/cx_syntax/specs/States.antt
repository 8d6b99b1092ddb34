-- The state of a reader, and what may come of a reading.
use Rattle.std.specs.Prelude.{ℕ, Bool, true, ◌||◌, nat_le, List, [], ◌∷◌, ◌++◌, Result, Ok, Err, if◌then◌else◌}
use Rattle.cx_base.specs.declared.kind.Kind.TheVariants as fault
use Rattle.cx_tokens.specs.Pieces.{Piece, is_unsupported}
use Rattle.cx_tokens.specs.Tokens.{TokenTree}
use Rattle.cx_names.specs.Frames.{Frames}
use Rattle.cx_syntax.specs.declared.context.Context.{Context}
use Rattle.cx_syntax.specs.declared.stopped.Stopped.{Stopped}
use Rattle.cx_syntax.specs.declared.stopped.Stopped.TheVariants as stopped

-- What is left to read; the number of the next node; the names that are known; and whether constructs may be nested
-- however deep.
pub record State : Type 0 where
  pub left : List Piece
  pub next : ℕ
  pub names : Frames
  pub free : Bool

-- A state with other pieces left, with more pieces at its end, with no limit of nesting.
abbrev pub cut : State → List Piece → State
cut s left = record { left = left; next = s.next; names = s.names; free = s.free }

abbrev pub grow : State → List Piece → State
grow s more = record { left = s.left ++ more; next = s.next; names = s.names; free = s.free }

abbrev pub freed : State → State
freed s = record { left = s.left; next = s.next; names = s.names; free = true }

-- Whether a token may stand in a context: there is room for one, or no limit.
abbrev pub fits : Context → State → Bool
fits c s = s.free || nat_le 1 c.room

-- What a reader gives: a value and the state after it, or why there is none.
abbrev pub Reading : Type 0 → Type 0
Reading A = Result (A × State) Stopped

infixl 10 ◌>>>◌
abbrev pub ◌>>>◌ : {A B : Type 0} → Reading A → (A × State → Reading B) → Reading B
(Ok x) >>> f = f x
(Err e) >>> f = Err e

-- The fault of a token that does not fit.
unfoldable pub misfit : TokenTree → Stopped
misfit t = stopped.Fault (if is_unsupported t.kind then fault.Unsupported else fault.Syntax) t.at
