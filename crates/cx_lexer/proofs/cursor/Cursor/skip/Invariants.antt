use Rattle.std.proofs.Common.{◌≡◌, length, drop}
use Rattle.std.specs.Str.{chars}
use Rattle.cx_lexer.specs.Reading.{spot, skip}
use Rattle.cx_lexer.proofs.cursor.Cursor.skip.Given as goal

abbrev pub invariant-loop-rest : goal.invariant-loop-rest
invariant-loop-rest l = record {
  src : l.self.src.now ≡ l.fn.self.src.now;
  goes_on : skip (spot l.fn.self.src.now l.self.from) ≡ skip (spot l.fn.self.src.now l.fn.self.from);
}

abbrev pub decreases-loop-rest : goal.decreases-loop-rest
decreases-loop-rest l = length (chars (drop l.self.from l.self.src.now))
