use Rattle.std.proofs.Common.{map, arith, ◌-◌, length}
use Rattle.std.proofs.lemmas.List.{length-map}
use Rattle.cx_lexer.specs.Tokens.{token_tree}
use Rattle.cx_spots.proofs.Rest.{index_left}
use Rattle.cx_spots.proofs.index.index_of.Goals as goal

pub overflow_sub-result : goal.overflow_sub-result
overflow_sub-result c =
    let h = index_left c.args.behind.half (map token_tree c.args.tokens.now) (map token_tree c.args.behind.tokens.now) c.requires.0 c.requires.1 c.args.behind.fits c.requires.2 c.requires.3 in
    omega (arith, h.0, length-map c.args.tokens.now token_tree, length-map c.args.behind.tokens.now token_tree)

pub returns-clause-left : goal.returns-clause-left
returns-clause-left c =
    let h = index_left c.args.behind.half (map token_tree c.args.tokens.now) (map token_tree c.args.behind.tokens.now) c.requires.0 c.requires.1 c.args.behind.fits c.requires.2 c.requires.3 in
    rw (← length-map c.args.tokens.now token_tree, ← length-map c.args.behind.tokens.now token_tree) h.1
