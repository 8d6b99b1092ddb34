use Rattle.std.proofs.Common.{◌≡◌, ◌+◌, ◌<◌, ◌^◌, length, drop}
use Rattle.cx_lexer.specs.Places.{place_behind}
use Rattle.cx_lexer.proofs.cursor.place_behind.Given as goal

abbrev pub invariant-loop-byte : goal.invariant-loop-byte
invariant-loop-byte l = record {
  lines_fit : l.here.line + length (drop l.byte-index l.text) < 2 ^ 32;
  columns_fit : l.here.col + length (drop l.byte-index l.text) < 2 ^ 32;
  goes_on : place_behind l.here (drop l.byte-index l.text) ≡ place_behind l.fn.at l.text;
}
