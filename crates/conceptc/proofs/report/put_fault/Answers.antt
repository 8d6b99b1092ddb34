use Rattle.std.proofs.Common.{◌≡◌, ◌++◌, refl}
use Rattle.std.specs.List.{flat_map}
use Rattle.std.proofs.lemmas.Result.{err_from_is_err_and}
use Rattle.conceptc.specs.Report.{fault_line, also_line, chain_line, fault_report}
use Rattle.conceptc.proofs.PutsLemmas.{taken, behind, stopped, put_then}
use Rattle.conceptc.proofs.report.put_fault.Goals as goal

pub returns-in_err-put_text : goal.returns-in_err-put_text
unfolding fault_report fault_line also_line chain_line
returns-in_err-put_text g c =
    let p = err_from_is_err_and c.from_residual.result c.from_residual.ensures.1 in
    let first : c.as_bytes.result.now ≡ fault_line c.args.fault.now = rw (c.as_bytes.ensures.value, c.as_str.ensures.value, c.name_line-line.ensures, c.name.ensures.text) refl in
    let also = flat_map also_line c.args.fault.now.also in
    rw (p.1, ← first) (stopped {A = Unit {0}} _ _ _ _ (c.as_bytes.result.now ++ also) (flat_map chain_line c.args.fault.now.chain) c.in_err-put_text.field-0.0 _
    (stopped _ _ _ _ c.as_bytes.result.now also c.in_err-put_text.field-0.0 c.in_err-put_text.field-0.0 c.in_err-put_text.ensures))

pub returns-in_err-put_places : goal.returns-in_err-put_places
unfolding fault_report fault_line also_line chain_line
returns-in_err-put_places g c =
    let p = err_from_is_err_and c.from_residual-in_err-put_places.result c.from_residual-in_err-put_places.ensures.1 in
    let first : c.as_bytes.result.now ≡ fault_line c.args.fault.now = rw (c.as_bytes.ensures.value, c.as_str.ensures.value, c.name_line-line.ensures, c.name.ensures.text) refl in
    let also = flat_map also_line c.args.fault.now.also in
    rw (p.1, ← first) (stopped {A = Unit {0}} _ _ _ _ (c.as_bytes.result.now ++ also) (flat_map chain_line c.args.fault.now.chain) c.in_err-put_places.field-0.0 _
    (behind _ _ _ _ _ _ c.as_bytes.result.now also _ (taken _ _ _ _ c.in_ok-put_text.field-0 c.as_bytes.result.now c.in_ok-put_text.ensures) c.in_err-put_places.ensures))

pub returns : goal.returns
unfolding fault_report fault_line also_line chain_line
returns g c =
    let first : c.as_bytes.result.now ≡ fault_line c.args.fault.now = rw (c.as_bytes.ensures.value, c.as_str.ensures.value, c.name_line-line.ensures, c.name.ensures.text) refl in
    let also = flat_map also_line c.args.fault.now.also in
    rw (← first) (behind _ _ _ _ _ _ (c.as_bytes.result.now ++ also) (flat_map chain_line c.args.fault.now.chain) c.put_places-2.result
    (put_then _ _ _ _ _ _ c.as_bytes.result.now also (taken _ _ _ _ c.in_ok-put_text.field-0 c.as_bytes.result.now c.in_ok-put_text.ensures) (taken _ _ _ _ c.in_ok-put_places.field-0 also c.in_ok-put_places.ensures)) c.put_places-2.ensures)
