use Rattle.std.proofs.Common.{◌≤◌}
use Rattle.cx_io.specs.Source.{Consumes}
use Rattle.cx_io.proofs.tests.read_all.Given as goal

abbrev pub invariant-loop : goal.invariant-loop
invariant-loop g l = record {
  read : Consumes (g.S.Source.rest l.initial.source) (g.S.Source.rest l.source) l.text.items;
  never_falls : g.S.Source.faults l.initial.source ≤ g.S.Source.faults l.source;
}
