use Rattle.std.proofs.Common.{◌≡◌, ◌∙◌, Ok}
use Rattle.std.proofs.lemmas.Result.{err_from_is_err_and}
use Rattle.cx_tree.specs.Trees.{expr_tree}
use Rattle.cx_grammar.specs.Production.{Stops}
use Rattle.cx_grammar.specs.Statements.{assertion}
use Rattle.cx_spots.specs.Spots.{context_of, left_at}
use Rattle.cx_parse_stmt.proofs.Binds.{stops_first, stops_then, reads_then, asked_inside}
use Rattle.cx_parse_stmt.proofs.jump.read_assertion.Goals as goal

pub returns-in_err-word-clause-exact : goal.returns-in_err-word-clause-exact
unfolding assertion
returns-in_err-word-clause-exact c =
    let p = err_from_is_err_and c.from_residual.result c.from_residual.ensures.1 in
    rw (p.1, p.2) (stops_first _ _ _ c.in_err-word.ensures.exact)

pub returns-in_err-spot-clause-exact : goal.returns-in_err-spot-clause-exact
unfolding assertion
returns-in_err-spot-clause-exact c =
    let p = err_from_is_err_and c.from_residual-in_err-spot.result c.from_residual-in_err-spot.ensures.1 in
    rw (p.1, p.2) (stops_then _ _ _ _ c.in_ok-word.ensures.exact (stops_first _ _ _ c.in_err-spot.ensures.exact))

pub returns-in_err-condition-clause-exact : goal.returns-in_err-condition-clause-exact
unfolding assertion
returns-in_err-condition-clause-exact c =
    let p = err_from_is_err_and c.from_residual-in_err-condition.result c.from_residual-in_err-condition.ensures.1 in
    rw (p.1, p.2) (stops_then _ _ _ _ c.in_ok-word.ensures.exact (stops_then _ _ _ _ c.in_ok-spot.ensures.exact (stops_first _ _ _ (asked_inside (λ r. Stops c.in_err-condition.field-0.0 r) (context_of c.inside.result) (context_of c.args.context) c.in_ok-spot.spot.next c.args.spot.next (left_at c.in_ok-spot.spot) c.inside.ensures.same (c.in_ok-spot.ensures.next ∙ c.in_ok-word.ensures.next) c.in_err-condition.ensures.asked))))

pub returns-in_err-message-clause-exact : goal.returns-in_err-message-clause-exact
unfolding assertion
returns-in_err-message-clause-exact c =
    let p = err_from_is_err_and c.from_residual-in_err-message.result c.from_residual-in_err-message.ensures.1 in
    let read = asked_inside (λ r. r ≡ Ok ((expr_tree c.in_ok-condition.condition, c.in_ok-condition.spot.next), left_at c.in_ok-condition.spot)) (context_of c.inside.result) (context_of c.args.context) c.in_ok-spot.spot.next c.args.spot.next (left_at c.in_ok-spot.spot) c.inside.ensures.same (c.in_ok-spot.ensures.next ∙ c.in_ok-word.ensures.next) c.in_ok-condition.ensures.asked in
    rw (p.1, p.2) (stops_then _ _ _ _ c.in_ok-word.ensures.exact (stops_then _ _ _ _ c.in_ok-spot.ensures.exact (stops_then _ _ _ _ read (stops_first _ _ _ c.in_err-message.ensures.exact))))

pub returns-in_err-spot-2-clause-exact : goal.returns-in_err-spot-2-clause-exact
unfolding assertion
returns-in_err-spot-2-clause-exact c =
    let p = err_from_is_err_and c.from_residual-in_err-spot-2.result c.from_residual-in_err-spot-2.ensures.1 in
    let read = asked_inside (λ r. r ≡ Ok ((expr_tree c.in_ok-condition.condition, c.in_ok-condition.spot.next), left_at c.in_ok-condition.spot)) (context_of c.inside.result) (context_of c.args.context) c.in_ok-spot.spot.next c.args.spot.next (left_at c.in_ok-spot.spot) c.inside.ensures.same (c.in_ok-spot.ensures.next ∙ c.in_ok-word.ensures.next) c.in_ok-condition.ensures.asked in
    rw (p.1, p.2) (stops_then _ _ _ _ c.in_ok-word.ensures.exact (stops_then _ _ _ _ c.in_ok-spot.ensures.exact (stops_then _ _ _ _ read (stops_then _ _ _ _ c.in_ok-message.ensures.exact (stops_first _ _ _ c.in_err-spot-2.ensures.exact)))))

pub returns-in_err-spot-3-clause-exact : goal.returns-in_err-spot-3-clause-exact
unfolding assertion
returns-in_err-spot-3-clause-exact c =
    let p = err_from_is_err_and c.from_residual-in_err-spot-3.result c.from_residual-in_err-spot-3.ensures.1 in
    let read = asked_inside (λ r. r ≡ Ok ((expr_tree c.in_ok-condition.condition, c.in_ok-condition.spot.next), left_at c.in_ok-condition.spot)) (context_of c.inside.result) (context_of c.args.context) c.in_ok-spot.spot.next c.args.spot.next (left_at c.in_ok-spot.spot) c.inside.ensures.same (c.in_ok-spot.ensures.next ∙ c.in_ok-word.ensures.next) c.in_ok-condition.ensures.asked in
    rw (p.1, p.2) (stops_then _ _ _ _ c.in_ok-word.ensures.exact (stops_then _ _ _ _ c.in_ok-spot.ensures.exact (stops_then _ _ _ _ read (stops_then _ _ _ _ c.in_ok-message.ensures.exact (stops_then _ _ _ _ c.in_ok-spot-2.ensures.exact (stops_first _ _ _ c.in_err-spot-3.ensures.exact))))))

pub returns-clause-exact : goal.returns-clause-exact
unfolding assertion
returns-clause-exact c =
    let read = asked_inside (λ r. r ≡ Ok ((expr_tree c.in_ok-condition.condition, c.in_ok-condition.spot.next), left_at c.in_ok-condition.spot)) (context_of c.inside.result) (context_of c.args.context) c.in_ok-spot.spot.next c.args.spot.next (left_at c.in_ok-spot.spot) c.inside.ensures.same (c.in_ok-spot.ensures.next ∙ c.in_ok-word.ensures.next) c.in_ok-condition.ensures.asked in
    reads_then _ _ _ _ c.in_ok-word.ensures.exact (reads_then _ _ _ _ c.in_ok-spot.ensures.exact (reads_then _ _ _ _ read (reads_then _ _ _ _ c.in_ok-message.ensures.exact (reads_then _ _ _ _ c.in_ok-spot-2.ensures.exact (reads_then _ _ _ _ c.in_ok-spot-3.ensures.exact (cc (c.in_ok-message.ensures.next, c.in_ok-spot-2.ensures.next, c.in_ok-spot-3.ensures.next)))))))
