use Rattle.std.proofs.Common.{◌-◌, ◌<◌, ◌≤◌, suc, length, reverse, set, arith}
use Rattle.std.proofs.lemmas.Result.{on_ok_weaker, on_err_weaker}
use Rattle.cx_scopes.proofs.Stack.{declared-set_last, kept-set_last, once-put}
use Rattle.cx_scopes.proofs.scope.put.Goals as goal

pub returns-clause-ok : goal.returns-clause-ok
returns-clause-ok c =
    let within : c.len-last.result - 1 < length c.args.frames.now.items = omega arith in
    let last : length c.args.frames.now.items ≤ suc (c.len-last.result - 1) = omega arith in
    on_ok_weaker c.put.result
    (declared-set_last c.args.frames.now.items (c.len-last.result - 1) c.index_mut-frame.result.now c.put.new.self c.args.name.now c.args.kind c.args.at within last c.index_mut-frame.ensures.value)
    c.put.ensures.ok

pub returns-clause-once : goal.returns-clause-once
returns-clause-once c =
    once-put c.put.result (reverse c.args.frames.now.items) (reverse (set c.args.frames.now.items (c.len-last.result - 1) c.put.new.self)) c.args.name.now c.args.kind c.args.at
    (returns-clause-ok c)
    (on_err_weaker c.put.result (kept-set_last c.args.frames.now.items (c.len-last.result - 1) c.index_mut-frame.result.now c.put.new.self c.index_mut-frame.ensures.value) c.put.ensures.err)
