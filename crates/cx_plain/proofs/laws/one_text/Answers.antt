use Rattle.cx_plain.proofs.Decimal.{says, one}
use Rattle.cx_plain.proofs.laws.one_text.Goals as goal

pub returns-clause-says : goal.returns-clause-says
returns-clause-says c = says c.args.a c.ranges.a

pub returns-clause-one : goal.returns-clause-one
returns-clause-one c = one c.args.a c.args.b c.ranges.a c.ranges.b
