use Rattle.std.proofs.Common.{◌≤◌, length}
use Rattle.cx_io.proofs.Growing.{HasGrown}
use Rattle.cx_io.proofs.std_sink.StdSinkSink.put.Given as goal

abbrev pub invariant-loop-left : goal.invariant-loop-left
invariant-loop-left g l = record {
  never_falls : l.initial.self.faults ≤ l.self.faults;
  grown : HasGrown (g.W.Write.contents l.initial.self.stream) (g.W.Write.contents l.self.stream) l.piece l.left;
}

abbrev pub decreases-loop-left : goal.decreases-loop-left
decreases-loop-left g l = length l.left
