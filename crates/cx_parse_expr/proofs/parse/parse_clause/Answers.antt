use Rattle.std.proofs.Common.{◌≡◌, ◌∙◌, ℕ, ◌+◌, ◌-◌, sym, ap, arith, map, drop, List, Result, Ok, refl}
use Rattle.std.proofs.lemmas.Result.{err_from_is_err_and}
use Rattle.cx_lexer.specs.Tokens.{token_tree}
use Rattle.cx_tree.specs.Trees.{ExprTree, expr_tree}
use Rattle.cx_grammar.specs.Names.{Context}
use Rattle.cx_grammar.specs.Expressions.{clause, levels, no_requires}
use Rattle.cx_grammar.specs.Pieces.{Piece, pieces}
use Rattle.cx_grammar.specs.Production.{Stopped, Stops}
use Rattle.cx_grammar.specs.Types.{Numbered}
use Rattle.cx_grammar.specs.Laws.{Answers}
use Rattle.cx_spots.specs.Spots.{below, context_of, left_at}
use Rattle.cx_parse_expr.specs.Parses.{load_limit}
use Rattle.cx_parse_expr.proofs.Parsed.{behind, moved, spelled_rest}
use Rattle.cx_parse_expr.proofs.parse.parse_clause.Goals as goal

pub returns-in_err-clause-clause-exact : goal.returns-in_err-clause-clause-exact
returns-in_err-clause-clause-exact c =
    let at : Context = record { names = c.args.scope.now; angle = 0; load = c.args.load } in
    let rest = pieces (drop c.args.from (map token_tree c.args.tokens.now)) in
    let answers = (c.laws_of_clauses.ensures.laws no_requires at c.args.ids.now.next).answers load_limit (264 - (c.args.load + 1)) rest (omega (arith, c.requires.load)) (omega (arith, c.requires.load)) in
    let stops = moved (Stops c.in_err-clause.field-0.0) (λ (k : Context) (n : ℕ) (ts : List Piece). (clause (below k) k n).read load_limit ts) (context_of c.context.result) at c.spot_at-spot.result.next c.args.ids.now.next (left_at c.spot_at-spot.result) rest c.context.ensures.same c.spot_at-spot.ensures.next c.spot_at-spot.ensures.left c.in_err-clause.ensures.exact in
    let p = err_from_is_err_and c.from_residual.result c.from_residual.ensures.1 in
    rw (p.1, p.2) (264 - (c.args.load + 1), answers, stops)

pub index_of-requires : goal.index_of-requires
index_of-requires c =
    let at : Context = record { names = c.args.scope.now; angle = 0; load = c.args.load } in
    let rest = pieces (drop c.args.from (map token_tree c.args.tokens.now)) in
    let answers = (c.laws_of_clauses.ensures.laws no_requires at c.args.ids.now.next).answers load_limit (264 - (c.args.load + 1)) rest (omega (arith, c.requires.load)) (omega (arith, c.requires.load)) in
    let read = moved (λ (r : Result (Numbered ExprTree × List Piece) Stopped). r ≡ Ok ((expr_tree c.in_ok-clause.clause, c.in_ok-clause.behind.next), left_at c.in_ok-clause.behind)) (λ (k : Context) (n : ℕ) (ts : List Piece). (clause (below k) k n).read load_limit ts) (context_of c.context.result) at c.spot_at-spot.result.next c.args.ids.now.next (left_at c.spot_at-spot.result) rest c.context.ensures.same c.spot_at-spot.ensures.next c.spot_at-spot.ensures.left c.in_ok-clause.ensures.exact in
    behind load_limit (λ level. clause (levels no_requires level) at c.args.ids.now.next) c.args.from (map token_tree c.args.tokens.now) _ _ _ (c.laws_of_clauses.ensures.tokens no_requires at c.args.ids.now.next refl) (c.spelled_tokens.ensures (drop c.args.from (map token_tree c.args.tokens.now)) (spelled_rest c.args.from (map token_tree c.args.tokens.now) c.requires.spelled)) answers read

pub returns-clause-exact : goal.returns-clause-exact
returns-clause-exact c =
    let at : Context = record { names = c.args.scope.now; angle = 0; load = c.args.load } in
    let rest = pieces (drop c.args.from (map token_tree c.args.tokens.now)) in
    let answers = (c.laws_of_clauses.ensures.laws no_requires at c.args.ids.now.next).answers load_limit (264 - (c.args.load + 1)) rest (omega (arith, c.requires.load)) (omega (arith, c.requires.load)) in
    let read = moved (λ (r : Result (Numbered ExprTree × List Piece) Stopped). r ≡ Ok ((expr_tree c.in_ok-clause.clause, c.in_ok-clause.behind.next), left_at c.in_ok-clause.behind)) (λ (k : Context) (n : ℕ) (ts : List Piece). (clause (below k) k n).read load_limit ts) (context_of c.context.result) at c.spot_at-spot.result.next c.args.ids.now.next (left_at c.spot_at-spot.result) rest c.context.ensures.same c.spot_at-spot.ensures.next c.spot_at-spot.ensures.left c.in_ok-clause.ensures.exact in
    (264 - (c.args.load + 1), answers, read ∙ ap (λ (left : List Piece). Ok ((expr_tree c.in_ok-clause.clause, c.in_ok-clause.behind.next), left)) c.index_of.ensures.left)
