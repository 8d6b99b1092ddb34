use Rattle.std.proofs.Common.{◌≡◌, ℕ, suc, ◌≤◌, Bool, not, List, [], length, map, Result, refl, sym, ap, subst, ◌∙◌, arith}
use Rattle.std.proofs.lemmas.Result.{err_from_is_err_and}
use Rattle.cx_base.specs.declared.stop.Stop.{Stop}
use Rattle.cx_base.specs.declared.stop.Stop.TheVariants as stop
use Rattle.cx_tree.specs.Trees.{expr_tree}
use Rattle.cx_grammar.specs.Types.{numbered, Named}
use Rattle.cx_statements.specs.StatementViews.{stmt_tree}
use Rattle.cx_scope.specs.Frames.{Frames, left}
use Rattle.cx_tree.specs.Statements.{StmtTree}
use Rattle.cx_grammar.specs.Names.{Context, inside}
use Rattle.cx_grammar.specs.Production.{Production, Stopped, Stops, ◌>>>◌, times, repeat}
use Rattle.cx_grammar.specs.Pieces.{Piece}
use Rattle.cx_grammar.specs.Requires.{is_not_closing}
use Rattle.cx_grammar.specs.Statements.{more_stmt, if_stmt, alternative}
use Rattle.cx_spots.specs.Spots.{left_at, ReadsNode}
use Rattle.cx_spots.proofs.Repeats.{repeat_begins, repeat_more}
use Rattle.cx_parse_stmt.specs.Within.{ReadsNamed, standing, opened}
use Rattle.cx_parse_stmt.proofs.Behind.{outer_behind, depth_behind}
use Rattle.cx_parse_stmt.proofs.Knot.{knot}
use Rattle.cx_parse_stmt.proofs.statement.+statements.Goals as goal

-- statements of a list that is still empty
begins_empty : (p : Piece → Bool) (step : Named (List StmtTree) → Production (Named (List StmtTree))) (ss : List StmtTree) (n : ℕ) (names : Frames) (ts : List Piece) → ss ≡ []
    → (k : ℕ) × (length ts ≤ k) × ((times (suc k) p step (ss, n, names)).read 256 ts ≡ (repeat p step ([], n, names)).read 256 ts)
begins_empty p step ss n names ts e = rw e (repeat_begins p step ([], n, names) ts)

pub statement_seq-statements-init : goal.statement_seq-statements-init
statement_seq-statements-init t c = record {
  so_far = begins_empty is_not_closing (more_stmt (opened c.args.load) (inside (standing (left c.args.scope.now) c.args.load))) (map stmt_tree c.new-all.result.items) c.args.spot.next c.args.scope.now (left_at c.args.spot) (ap (map stmt_tree) c.new-all.ensures.items);
  outer = refl;
  depth = refl;
  numbers = omega arith;
  weights = omega arith;
}

pub statement_seq-statements-preserved : goal.statement_seq-statements-preserved
statement_seq-statements-preserved t c = record {
  so_far = repeat_more is_not_closing (more_stmt (opened c.args.load) (inside (standing (left c.args.scope.now) c.args.load))) c.statements.invariant.so_far.0 (map stmt_tree c.statements.all.items, c.statements.spot.next, c.statements.scope) _ (left_at c.statements.spot) (left_at c.in_ok-more.behind) _ c.statements.invariant.so_far.1 (c.closes_block.ensures ∙ ap not c.statements-test.true) c.in_ok-more.ensures.exact (omega (arith, c.in_ok-more.ensures.lightens.0, c.in_ok-more.ensures.lightens.1)) c.statements.invariant.so_far.2;
  outer = c.in_ok-more.ensures.outer ∙ c.statements.invariant.outer;
  depth = c.in_ok-more.ensures.depth ∙ c.statements.invariant.depth;
  numbers = omega (arith, c.in_ok-more.ensures.lightens.0);
  weights = omega (arith, c.in_ok-more.ensures.lightens.1);
}

pub statement-returns-clause-exact : goal.statement-returns-clause-exact
statement-returns-clause-exact t c = subst (λ (p : Context → ℕ → Production (Named StmtTree)). ReadsNamed stmt_tree (λ s. c.bare_stmt.new.scope) (p (standing c.args.scope.now c.args.load)) c.args.spot c.bare_stmt.result) (sym (knot c.args.load (omega (arith, c.requires.load)))) c.bare_stmt.ensures.exact

pub statement-returns-clause-outer : goal.statement-returns-clause-outer
statement-returns-clause-outer t c = outer_behind c.bare_stmt.result c.args.scope.now c.bare_stmt.new.scope c.bare_stmt.ensures.scope

pub statement-returns-clause-depth : goal.statement-returns-clause-depth
statement-returns-clause-depth t c = depth_behind c.bare_stmt.result c.args.scope.now c.bare_stmt.new.scope c.bare_stmt.ensures.scope

pub block-returns-clause-scope : goal.block-returns-clause-scope
block-returns-clause-scope t c = c.leave.ensures.left ∙ (c.in_ok-statements.ensures.outer ∙ ap left c.in_ok-enter.ensures.ok)

pub substatement-returns-clause-scope : goal.substatement-returns-clause-scope
substatement-returns-clause-scope t c = c.leave.ensures.left ∙ (c.in_ok-stmt.ensures.outer ∙ ap left c.in_ok-enter.ensures.ok)

pub for_stmt-returns-clause-scope : goal.for_stmt-returns-clause-scope
for_stmt-returns-clause-scope t c = c.leave.ensures.left ∙ (ap left c.in_ok-body.ensures.scope ∙ (c.in_ok-head.ensures.outer ∙ ap left c.in_ok-enter.ensures.ok))

pub for_stmt-leave-requires : goal.for_stmt-leave-requires
for_stmt-leave-requires t c = omega (arith, ap length c.in_ok-body.ensures.scope, c.in_ok-head.ensures.depth, c.in_ok-enter.ensures.depth)

-- what stops a part stops the whole
stops_then : {A B : Type 0} (m : Result A Stopped) (f : A → Result B Stopped) (e : Stop) → Stops e m → Stops e (m >>> f)
stops_then m f stop.NoMemory s = tt
stops_then {A = A} m f (stop.Fault g) s = ap (λ (z : Result A Stopped). z >>> f) s
stops_then {A = A} m f (stop.Limit l at) s = ap (λ (z : Result A Stopped). z >>> f) s

pub worded_stmt-returns-in_err-stmt-clause-exact : goal.worded_stmt-returns-in_err-stmt-clause-exact
worded_stmt-returns-in_err-stmt-clause-exact t c =
    let p = err_from_is_err_and c.from_residual.result c.from_residual.ensures.1 in
    rw (p.1, p.2) (rw (sym c.begins.ensures ∙ c.if-begins.true) c.in_err-stmt.ensures.exact)

pub worded_stmt-returns-in_ok-stmt-clause-exact : goal.worded_stmt-returns-in_ok-stmt-clause-exact
worded_stmt-returns-in_ok-stmt-clause-exact t c = rw (sym c.begins.ensures ∙ c.if-begins.true) c.in_ok-stmt.ensures.exact

pub worded_stmt-returns-in_err-stmt-2-clause-exact : goal.worded_stmt-returns-in_err-stmt-2-clause-exact
worded_stmt-returns-in_err-stmt-2-clause-exact t c =
    let p = err_from_is_err_and c.from_residual-in_err-stmt-2.result c.from_residual-in_err-stmt-2.ensures.1 in
    rw (p.1, p.2) (rw (sym c.begins.ensures ∙ c.if-begins.false, sym c.begins-else-begins.ensures ∙ c.if-begins-2.true) (stops_then _ _ _ c.in_err-stmt-2.ensures.exact))

pub worded_stmt-returns-in_ok-stmt-2-clause-exact : goal.worded_stmt-returns-in_ok-stmt-2-clause-exact
worded_stmt-returns-in_ok-stmt-2-clause-exact t c = rw (sym c.begins.ensures ∙ c.if-begins.false, sym c.begins-else-begins.ensures ∙ c.if-begins-2.true, c.in_ok-stmt-2.ensures.exact) refl

pub worded_stmt-returns-in_err-stmt-3-clause-exact : goal.worded_stmt-returns-in_err-stmt-3-clause-exact
worded_stmt-returns-in_err-stmt-3-clause-exact t c =
    let p = err_from_is_err_and c.from_residual-in_err-stmt-3.result c.from_residual-in_err-stmt-3.ensures.1 in
    rw (p.1, p.2) (rw (sym c.begins.ensures ∙ c.if-begins.false, sym c.begins-else-begins.ensures ∙ c.if-begins-2.false, sym c.begins-else-begins-2.ensures ∙ c.if-begins-3.true) (stops_then _ _ _ c.in_err-stmt-3.ensures.exact))

pub worded_stmt-returns-in_ok-stmt-3-clause-exact : goal.worded_stmt-returns-in_ok-stmt-3-clause-exact
worded_stmt-returns-in_ok-stmt-3-clause-exact t c = rw (sym c.begins.ensures ∙ c.if-begins.false, sym c.begins-else-begins.ensures ∙ c.if-begins-2.false, sym c.begins-else-begins-2.ensures ∙ c.if-begins-3.true, c.in_ok-stmt-3.ensures.exact) refl

pub worded_stmt-returns-in_err-stmt-4-clause-exact : goal.worded_stmt-returns-in_err-stmt-4-clause-exact
worded_stmt-returns-in_err-stmt-4-clause-exact t c =
    let p = err_from_is_err_and c.from_residual-in_err-stmt-4.result c.from_residual-in_err-stmt-4.ensures.1 in
    rw (p.1, p.2) (rw (sym c.begins.ensures ∙ c.if-begins.false, sym c.begins-else-begins.ensures ∙ c.if-begins-2.false, sym c.begins-else-begins-2.ensures ∙ c.if-begins-3.false, sym c.begins-else-begins-3.ensures ∙ c.if-begins-4.true) (stops_then _ _ _ c.in_err-stmt-4.ensures.exact))

pub worded_stmt-returns-in_ok-stmt-4-clause-exact : goal.worded_stmt-returns-in_ok-stmt-4-clause-exact
worded_stmt-returns-in_ok-stmt-4-clause-exact t c = rw (sym c.begins.ensures ∙ c.if-begins.false, sym c.begins-else-begins.ensures ∙ c.if-begins-2.false, sym c.begins-else-begins-2.ensures ∙ c.if-begins-3.false, sym c.begins-else-begins-3.ensures ∙ c.if-begins-4.true, c.in_ok-stmt-4.ensures.exact) refl

pub worded_stmt-returns-else-begins-4-clause-exact : goal.worded_stmt-returns-else-begins-4-clause-exact
worded_stmt-returns-else-begins-4-clause-exact t c = rw (sym c.begins.ensures ∙ c.if-begins.false, sym c.begins-else-begins.ensures ∙ c.if-begins-2.false, sym c.begins-else-begins-2.ensures ∙ c.if-begins-3.false, sym c.begins-else-begins-3.ensures ∙ c.if-begins-4.false) c.open_or_holding_stmt.ensures.exact

pub if_stmt-returns-clause-exact : goal.if_stmt-returns-clause-exact
unfolding if_stmt alternative
if_stmt-returns-clause-exact t c =
    let same = subst (λ (s : Frames). ReadsNode stmt_tree (λ n. alternative (opened c.args.load) (standing s c.args.load) (numbered n c.in_ok-word.word.token.at) c.in_ok-is_constexpr.is_constexpr (expr_tree c.in_ok-condition.condition) (stmt_tree c.in_ok-then.then.value, n)) c.in_ok-then.spot c.alternative.result) c.in_ok-then.ensures.scope c.alternative.ensures.exact in
    rw (c.in_ok-word.ensures.exact, c.in_ok-is_constexpr.ensures.exact, ← c.in_ok-word.ensures.next, ← c.in_ok-is_constexpr.ensures.next, c.in_ok-condition.ensures.exact, c.in_ok-then.ensures.exact) same
