use Rattle.std.proofs.Common.{◌≡◌, ◌∙◌, ap, map, arith, drop, List, length}
use Rattle.std.proofs.lemmas.List.{length-map}
use Rattle.cx_lexer.specs.Tokens.{TokenTree, token_tree}
use Rattle.cx_grammar.specs.Pieces.{Piece, pieces}
use Rattle.cx_spots.specs.Spots.{left_at}
use Rattle.cx_spots.proofs.Rest.{slice_rest, rest_ends, count_rest}
use Rattle.cx_spots.proofs.index.spot_at.Goals as goal

pub before-requires : goal.before-requires
before-requires c = rw (slice_rest c.args.from c.args.tokens.now) (rest_ends c.args.from (map token_tree c.args.tokens.now) (omega (arith, c.requires.from, length-map c.args.tokens.now token_tree)) c.requires.ended c.requires.spelled)

pub returns-clause-left : goal.returns-clause-left
returns-clause-left c = c.before-2.ensures.left ∙ ap (λ (ts : List TokenTree). pieces ts) (slice_rest c.args.from c.args.tokens.now)

pub returns-clause-light : goal.returns-clause-light
returns-clause-light c =
    let same : left_at c.before-2.result ≡ pieces (drop c.args.from (map token_tree c.args.tokens.now)) = c.before-2.ensures.left ∙ ap (λ (ts : List TokenTree). pieces ts) (slice_rest c.args.from c.args.tokens.now) in
    let count : length (left_at c.before-2.result) ≡ length (pieces (drop c.args.from (map token_tree c.args.tokens.now))) = ap (λ (ps : List Piece). length ps) same in
    omega (arith, count, c.before-2.ensures.next, count_rest c.args.from (map token_tree c.args.tokens.now), length-map c.args.tokens.now token_tree)
