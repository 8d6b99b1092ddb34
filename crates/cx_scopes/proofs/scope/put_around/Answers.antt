use Rattle.std.proofs.Common.{◌≡◌, ◌-◌, ◌+◌, suc, length, reverse, set, arith}
use Rattle.std.proofs.lemmas.Result.{on_ok_weaker, on_err_weaker}
use Rattle.cx_scopes.proofs.Stack.{noted-set, kept-set_last, once-put_around}
use Rattle.cx_scopes.proofs.scope.put_around.Goals as goal

pub returns-clause-ok : goal.returns-clause-ok
returns-clause-ok c =
    let index = c.len.result - 1 - c.args.depth in
    let all : index + suc c.args.depth ≡ length c.args.frames.now.items = omega arith in
    on_ok_weaker c.put.result
    (noted-set c.args.frames.now.items index c.args.depth c.index_mut-frame.result.now c.put.new.self c.args.name.now c.args.kind all c.index_mut-frame.ensures.value)
    c.put.ensures.ok

pub returns-clause-once : goal.returns-clause-once
returns-clause-once c =
    once-put_around c.put.result c.args.depth (reverse c.args.frames.now.items) (reverse (set c.args.frames.now.items (c.len.result - 1 - c.args.depth) c.put.new.self)) c.args.name.now c.args.kind
    (returns-clause-ok c)
    (on_err_weaker c.put.result (kept-set_last c.args.frames.now.items (c.len.result - 1 - c.args.depth) c.index_mut-frame.result.now c.put.new.self c.index_mut-frame.ensures.value) c.put.ensures.err)
