use Rattle.std.proofs.Common.{arith}
use Rattle.cx_io.proofs.tests.read_all.Goals as goal

pub returns-then-not-branch-clause-read : goal.returns-then-not-branch-clause-read
returns-then-not-branch-clause-read g c = c.in_ok-read_more.ensures.read _ c.loop.invariant.read

pub loop-preserved : goal.loop-preserved
loop-preserved g c = record {
  read = c.in_ok-read_more.ensures.read _ c.loop.invariant.read;
  never_falls = omega (arith, c.in_ok-read_more.ensures.never_falls, c.loop.invariant.never_falls);
}
