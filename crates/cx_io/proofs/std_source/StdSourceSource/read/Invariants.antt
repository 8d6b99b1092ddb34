use Rattle.std.proofs.Common.{◌+◌, ◌-◌, ◌^◌, ◌≤◌, min}
use Rattle.std.specs.Io.KnownBytes.{Keeps}
use Rattle.cx_io.proofs.std_source.StdSourceSource.read.Given as goal

abbrev pub invariant-loop : goal.invariant-loop
invariant-loop g l = record {
  kept : Keeps (g.R.Read.remaining l.initial.self.stream) (g.R.Read.remaining l.self.stream);
  never_falls : l.initial.self.faults ≤ l.self.faults;
  rose : min (l.initial.self.faults + l.counter) (2 ^ 64 - 1) ≤ l.self.faults;
}
