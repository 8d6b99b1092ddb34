use Rattle.std.proofs.Common.{arith, rules, ◌∙◌}
use Rattle.std.proofs.lemmas.Bool.Decides.{nat_tests}
use Rattle.cx_spots.specs.Spots.{left_at, piece_tree}
use Rattle.cx_spots.proofs.Takes.{read_misfit, read_deep, read_taken}
use Rattle.cx_spots.proofs.spot.Spot.take_if.Goals as goal

pub returns-then-not-fits-clause-exact : goal.returns-then-not-fits-clause-exact
returns-then-not-fits-clause-exact c = read_misfit c.misfit.result c.args.load 256 c.args.fits (piece_tree c.piece-piece.result) (left_at c.args.self) (search rules) c.piece-piece.ensures.first c.misfit.ensures

pub returns-then-load-gt256-clause-exact : goal.returns-then-load-gt256-clause-exact
returns-then-load-gt256-clause-exact c = read_deep c.args.load 256 c.args.fits (piece_tree c.piece-piece.result) (left_at c.args.self) (search rules) (grind (arith, nat_tests)) c.piece-piece.ensures.first

pub returns-clause-exact : goal.returns-clause-exact
returns-clause-exact c = read_taken c.args.load 256 c.args.fits (piece_tree c.piece-piece.result) c.behind.ensures.parts.0 (left_at c.behind.result) (left_at c.args.self) (search rules) (grind (arith, nat_tests)) c.piece-piece.ensures.first c.behind.ensures.parts.1
