use Rattle.std.proofs.Common.{take}
use Rattle.std.specs.List.{flat_map}
use Rattle.conceptc.specs.Report.{place_line}
use Rattle.conceptc.proofs.PutsLemmas.{HasPut}
use Rattle.conceptc.proofs.report.put_places.Given as goal

abbrev pub invariant-loop-i : goal.invariant-loop-i
invariant-loop-i g l = HasPut (g.K.Sink.written l.fn.diag) (g.K.Sink.written l.diag) (g.K.Sink.faults l.fn.diag) (g.K.Sink.faults l.diag) (flat_map (place_line l.word) (take l.i l.places))
