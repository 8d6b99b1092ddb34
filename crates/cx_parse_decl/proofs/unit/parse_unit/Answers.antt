use Rattle.std.proofs.Common.{◌∙◌, List, ap, map, length, arith}
use Rattle.std.proofs.lemmas.List.{length-map}
use Rattle.std.proofs.lemmas.Result.{err_from_is_err_and}
use Rattle.cx_lexer.specs.Tokens.{token_tree}
use Rattle.cx_scope.specs.Frames.{Frames, entered}
use Rattle.cx_statements.specs.DeclarationViews.{decl_tree}
use Rattle.cx_grammar.specs.Pieces.{Piece}
use Rattle.cx_spots.specs.Spots.{left_at}
use Rattle.cx_parse_decl.proofs.Ends.{tokens_end}
use Rattle.cx_parse_decl.proofs.Numbers.{length-pieces}
use Rattle.cx_parse_decl.proofs.Parsing.{unit_read, unit_stopped}
use Rattle.cx_parse_decl.proofs.Readings.{unit_found}
use Rattle.cx_parse_decl.proofs.unit.parse_unit.Goals as goal

pub before-requires : goal.before-requires
before-requires c = tokens_end (map token_tree c.args.tokens.now) c.requires.ended c.requires.spelled

pub functions-requires-clause-room : goal.functions-requires-clause-room
functions-requires-clause-room c =
    let ts = map token_tree c.args.tokens.now in
    let few = length-pieces ts in
    let same = ap (λ (z : List Piece). length z) c.before-2.ensures.left in
    omega (arith, c.before-2.ensures.next, length-map c.args.tokens.now token_tree, c.requires.room)

pub returns-in_err-declarations-clause-exact : goal.returns-in_err-declarations-clause-exact
returns-in_err-declarations-clause-exact c =
    let p = err_from_is_err_and c.from_residual-in_err-declarations.result c.from_residual-in_err-declarations.ensures.1 in
    rw (p.1, p.2) (unit_stopped (map token_tree c.args.tokens.now) c.before-2.result.next c.enter.new.self (left_at c.before-2.result) c.in_err-declarations.field-0.0
    c.before-2.ensures.next (c.in_ok-enter.ensures.ok ∙ ap (λ (z : Frames). entered z) c.new-scope.ensures) c.before-2.ensures.left c.in_err-declarations.ensures.exact)

read : goal.returns-clause-exact
read c = unit_read (map token_tree c.args.tokens.now) c.before-2.result.next c.enter.new.self (left_at c.before-2.result) (map decl_tree c.in_ok-declarations.declarations.items, c.in_ok-declarations.field-0-1.next, c.functions.new.scope) (left_at c.in_ok-declarations.field-0-1)
    c.before-2.ensures.next (c.in_ok-enter.ensures.ok ∙ ap (λ (z : Frames). entered z) c.new-scope.ensures) c.before-2.ensures.left c.in_ok-declarations.ensures.exact c.in_ok-declarations.ensures.here

pub returns-clause-exact : goal.returns-clause-exact
returns-clause-exact c = read c

pub returns-clause-spelled : goal.returns-clause-spelled
returns-clause-spelled c = unit_found (map token_tree c.args.tokens.now) (map decl_tree c.in_ok-declarations.declarations.items) c.requires.ended c.requires.spelled (read c)

pub returns-clause-bounded : goal.returns-clause-bounded
returns-clause-bounded c =
    let few = length-pieces (map token_tree c.args.tokens.now) in
    let same = ap (λ (z : List Piece). length z) c.before-2.ensures.left in
    omega (arith, c.in_ok-declarations.ensures.counts, c.before-2.ensures.next, length-map c.args.tokens.now token_tree, length-map c.in_ok-declarations.declarations.items decl_tree, c.requires.room)
