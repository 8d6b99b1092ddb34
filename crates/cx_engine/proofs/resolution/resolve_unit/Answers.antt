use Rattle.std.proofs.Common.{refl}
use Rattle.std.proofs.lemmas.Result.{err_from_is_err_and}
use Rattle.cx_engine.proofs.ResolutionLemmas.{goes_on, stops_there, ends}
use Rattle.cx_engine.proofs.resolution.resolve_unit.Goals as goal

pub loop-function-init : goal.loop-function-init
loop-function-init c = rw c.new-names.ensures record { so_far = refl; rest = refl }

pub returns-in_err-resolve_function-clause-exact : goal.returns-in_err-resolve_function-clause-exact
returns-in_err-resolve_function-clause-exact c =
    let p = err_from_is_err_and c.from_residual.result c.from_residual.ensures.1 in
    let item = rw c.function-item.is at c.in_err-resolve_function.ensures.exact in
    rw (p.1, p.2) (stops_there c.args.functions.now c.loop-function.function-index c.function-item.result c.loop-function.names c.in_err-resolve_function.field-0.0 c.loop-function-test.true item c.loop-function.invariant)

pub loop-function-preserved : goal.loop-function-preserved
loop-function-preserved c =
    let item = rw c.function-item.is at c.in_ok-resolve_function.ensures.exact in
    let adds = rw c.function-item.is at c.in_ok-resolve_function.ensures.adds in
    goes_on c.args.functions.now c.loop-function.function-index c.function-item.result c.loop-function.names c.resolve_function.new.names c.loop-function-test.true item adds c.loop-function.invariant

pub returns-clause-exact : goal.returns-clause-exact
returns-clause-exact c = (ends c.args.functions.now c.loop-function.function-index c.loop-function.names c.loop-function-test.false c.loop-function.invariant).0

pub returns-clause-all : goal.returns-clause-all
returns-clause-all c = (ends c.args.functions.now c.loop-function.function-index c.loop-function.names c.loop-function-test.false c.loop-function.invariant).1
