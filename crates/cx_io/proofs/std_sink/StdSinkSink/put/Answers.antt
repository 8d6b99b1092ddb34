use Rattle.std.proofs.Common.{arith}
use Rattle.cx_io.proofs.Growing.{goes_on}
use Rattle.cx_io.proofs.std_sink.StdSinkSink.put.Goals as goal

pub loop-left-preserved : goal.loop-left-preserved
loop-left-preserved g c = record {
  never_falls = omega (arith, c.loop-left.invariant.never_falls, c.write_some.ensures.never_falls);
  grown = goes_on _ _ _ _ _ _ c.loop-left.invariant.grown c.in_ok-count.ensures.bound c.in_ok-count.ensures.bytes;
}
