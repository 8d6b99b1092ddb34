use Rattle.std.proofs.Common.{◌<◌, ◌-◌, vec_len}
use Rattle.conceptc.specs.Verdict.{source_limit}
use Rattle.conceptc.proofs.ReadingLemmas.{HasRead}
use Rattle.conceptc.proofs.input.read_input.Given as goal

abbrev pub invariant-loop-text : goal.invariant-loop-text
invariant-loop-text g l = (0 < vec_len l.piece) × HasRead (g.S.Source.rest l.fn.input) (g.S.Source.rest l.input) (g.S.Source.faults l.fn.input) (g.S.Source.faults l.input) l.text.items

abbrev pub decreases-loop-text : goal.decreases-loop-text
decreases-loop-text g l = source_limit - vec_len l.text
