-- The state of a reader that a cursor is.
use Rattle.std.specs.Prelude.{false, map}
use Rattle.cx_tokens.specs.Tokens.{token_tree}
use Rattle.cx_syntax.specs.States.{State}
use Rattle.cx_cursor.specs.Pieces.{pieces_left}
use Rattle.cx_cursor.specs.declared.cursor.Cursor.TheInside.{Inside}

abbrev pub state_of : Inside → State
state_of c = record { left = pieces_left c.half (map token_tree c.tokens.now); next = c.next; names = c.scope; free = false }
