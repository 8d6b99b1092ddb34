use Rattle.std.proofs.Common.{◌≡◌, ◌∙◌, ℕ, ◌+◌, ◌-◌, sym, ap, arith, map, drop, List, Result, Ok, refl}
use Rattle.std.proofs.lemmas.Result.{err_from_is_err_and}
use Rattle.cx_lexer.specs.Tokens.{token_tree}
use Rattle.cx_tree.specs.Statements.{StmtTree}
use Rattle.cx_grammar.specs.Names.{Context}
use Rattle.cx_grammar.specs.Pieces.{Piece, pieces}
use Rattle.cx_grammar.specs.Production.{Stopped, Stops}
use Rattle.cx_grammar.specs.Types.{Named}
use Rattle.cx_grammar.specs.Statements.{stmt}
use Rattle.cx_grammar.specs.Expressions.{no_requires}
use Rattle.cx_grammar.specs.Declarations.{unit_levels}
use Rattle.cx_grammar.specs.Laws.{Answers}
use Rattle.cx_spots.specs.Spots.{left_at}
use Rattle.cx_parse_expr.proofs.Parsed.{behind, spelled_rest}
use Rattle.cx_parse_stmt.specs.Parses.{load_limit}
use Rattle.cx_parse_stmt.specs.Within.{standing}
use Rattle.cx_parse_stmt.proofs.Parsed.{moved, read_there, left_there}
use Rattle.cx_parse_stmt.proofs.parse.parse_stmt.Goals as goal

pub returns-in_err-stmt-clause-exact : goal.returns-in_err-stmt-clause-exact
returns-in_err-stmt-clause-exact c =
    let at : Context = standing c.args.scope.now c.args.load in
    let rest = pieces (drop c.args.from (map token_tree c.args.tokens.now)) in
    let answers = (c.laws_of_statements.ensures.laws no_requires at c.args.ids.now.next).answers load_limit (264 - (c.args.load + 1)) rest (omega (arith, c.requires.load)) (omega (arith, c.requires.load)) in
    let stops = moved (Stops c.in_err-stmt.field-0.0) (λ (n : ℕ) (ts : List Piece). (stmt (unit_levels no_requires (264 - (c.args.load + 1))) at n).read load_limit ts) c.spot_at-spot.result.next c.args.ids.now.next (left_at c.spot_at-spot.result) rest c.spot_at-spot.ensures.next c.spot_at-spot.ensures.left c.in_err-stmt.ensures.exact in
    let p = err_from_is_err_and c.from_residual.result c.from_residual.ensures.1 in
    rw (p.1, p.2) (264 - (c.args.load + 1), answers, stops)

pub index_of-requires : goal.index_of-requires
index_of-requires c =
    let at : Context = standing c.args.scope.now c.args.load in
    let rest = pieces (drop c.args.from (map token_tree c.args.tokens.now)) in
    let answers = (c.laws_of_statements.ensures.laws no_requires at c.args.ids.now.next).answers load_limit (264 - (c.args.load + 1)) rest (omega (arith, c.requires.load)) (omega (arith, c.requires.load)) in
    let read = read_there (λ (n : ℕ) (ts : List Piece). (stmt (unit_levels no_requires (264 - (c.args.load + 1))) at n).read load_limit ts) c.spot_at-spot.result.next c.args.ids.now.next (left_at c.spot_at-spot.result) rest _ _ c.spot_at-spot.ensures.next c.spot_at-spot.ensures.left c.in_ok-stmt.ensures.exact in
    behind load_limit (λ level. stmt (unit_levels no_requires level) at c.args.ids.now.next) c.args.from (map token_tree c.args.tokens.now) _ _ _ (c.laws_of_statements.ensures.tokens no_requires at c.args.ids.now.next refl) (c.spelled_tokens.ensures (drop c.args.from (map token_tree c.args.tokens.now)) (spelled_rest c.args.from (map token_tree c.args.tokens.now) c.requires.spelled)) answers read

pub returns-clause-exact : goal.returns-clause-exact
returns-clause-exact c =
    let at : Context = standing c.args.scope.now c.args.load in
    let rest = pieces (drop c.args.from (map token_tree c.args.tokens.now)) in
    let answers = (c.laws_of_statements.ensures.laws no_requires at c.args.ids.now.next).answers load_limit (264 - (c.args.load + 1)) rest (omega (arith, c.requires.load)) (omega (arith, c.requires.load)) in
    let read = read_there (λ (n : ℕ) (ts : List Piece). (stmt (unit_levels no_requires (264 - (c.args.load + 1))) at n).read load_limit ts) c.spot_at-spot.result.next c.args.ids.now.next (left_at c.spot_at-spot.result) rest _ _ c.spot_at-spot.ensures.next c.spot_at-spot.ensures.left c.in_ok-stmt.ensures.exact in
    (264 - (c.args.load + 1), answers, left_there _ _ _ _ c.index_of.ensures.left read)
