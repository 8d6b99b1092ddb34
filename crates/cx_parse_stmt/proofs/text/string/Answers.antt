use Rattle.std.proofs.Common.{◌≡◌, true, arith, nat_le}
use Rattle.std.proofs.lemmas.Bool.Decides.{nat_tests}
use Rattle.std.proofs.lemmas.Grind.{common_steps}
use Rattle.cx_grammar.specs.Production.{begins}
use Rattle.cx_grammar.specs.Statements.{string_token}
use Rattle.cx_spots.specs.Spots.{left_at, piece_tree}
use Rattle.cx_parse_stmt.proofs.Strings.{read_string}
use Rattle.cx_parse_stmt.proofs.text.string.Goals as goal

pub returns-clause-exact : goal.returns-clause-exact
returns-clause-exact c =
    let some : begins string_token (left_at c.args.spot) ≡ true = grind (arith, common_steps) in
    let shallow : nat_le c.args.load 256 ≡ true = grind (arith, nat_tests) in
    read_string c.args.load 256 (piece_tree c.piece-piece.result) c.behind.ensures.parts.0 (left_at c.behind.result) (left_at c.args.spot) some shallow c.piece-piece.ensures.first c.behind.ensures.parts.1
