use Rattle.std.proofs.Common.{arith}
use Rattle.std.proofs.lemmas.List.Sums.{prefix_len-le-length}
use Rattle.cx_tokens.specs.Literals.{is_digit_of}
use Rattle.cx_literals.proofs.literals.parts.Goals as goal

pub split_at-requires : goal.split_at-requires
split_at-requires c = omega (arith, c.digits_end.ensures, prefix_len-le-length (is_digit_of c.is_hexadecimal.result) c.after_prefix-after.result.now)
