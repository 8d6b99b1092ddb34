use Rattle.std.proofs.Common.{arith, rules, ◌∙◌, sym}
use Rattle.cx_spots.proofs.Takes.{left_behind}
use Rattle.cx_spots.proofs.spot.Spot.behind.Goals as goal

pub returns-clause-parts : goal.returns-clause-parts
returns-clause-parts c = left_behind c.args.self.half _ c.args.self.tokens.now (omega arith) (sym c.is_first_half.ensures ∙ search rules)
