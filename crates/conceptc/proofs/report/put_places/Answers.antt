use Rattle.std.proofs.Common.{◌≤◌, length, ◌∙◌, arith}
use Rattle.std.proofs.lemmas.Result.{err_from_is_err_and}
use Rattle.conceptc.specs.Report.{place_line}
use Rattle.conceptc.proofs.PutsLemmas.{line_put, line_failed, all_lines}
use Rattle.conceptc.proofs.report.put_places.Goals as goal

pub loop-i-preserved : goal.loop-i-preserved
loop-i-preserved g c =
    line_put (place_line c.args.word.now) c.args.places.now c.loop-i.i c.get.result c.as_bytes.result.now _ _ _ _ _ _ c.in_ok-put_text.field-0
    c.get.ensures (c.as_bytes.ensures.value ∙ c.as_str.ensures.value ∙ c.place_line-line.ensures) c.loop-i.invariant c.in_ok-put_text.ensures

pub returns-in_err-put_text : goal.returns-in_err-put_text
returns-in_err-put_text g c =
    let p = err_from_is_err_and c.from_residual.result c.from_residual.ensures.1 in
    rw p.1 (line_failed (place_line c.args.word.now) c.args.places.now c.loop-i.i c.get.result c.as_bytes.result.now _ _ _ _ _ _ c.in_err-put_text.field-0.0 _
    c.get.ensures (c.as_bytes.ensures.value ∙ c.as_str.ensures.value ∙ c.place_line-line.ensures) c.loop-i.invariant c.in_err-put_text.ensures)

pub returns : goal.returns
returns g c =
    let above : length c.args.places.now ≤ c.loop-i.i = omega (arith, c.len-i-end.ensures, c.loop-i-test.false) in
    all_lines (place_line c.args.word.now) c.args.places.now c.loop-i.i _ _ _ _ tt above c.loop-i.invariant
