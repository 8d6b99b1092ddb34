use Rattle.std.proofs.Common.{◌≡◌, None}
use Rattle.cx_tokens.specs.Literals.{value_of}
use Rattle.cx_literals.proofs.LiteralLemmas.{held, literal_too_big}
use Rattle.cx_literals.proofs.literals.literal.Goals as goal

pub returns-in-None : goal.returns-in-None
returns-in-None c = let too_big : None ≡ held (value_of c.args.text.now) = cc in literal_too_big c.args.text.now too_big
