use Rattle.std.proofs.Common.{ℕ, ◌+◌, ◌≤◌, ◌*◌, get_or, drop, arith}
use Rattle.std.specs.Char.{digit_value}
use Rattle.std.proofs.Math.Nat.{mul-le-mul_left}
use Rattle.cx_literals.proofs.LiteralLemmas.{le-number_after, number-digit, held_big}
use Rattle.cx_literals.proofs.literals.number.Goals as goal

pub overflow_mul-value : goal.overflow_mul-value
overflow_mul-value c = let most : c.loop-byte.value * c.args.base ≤ c.loop-byte.value * 16 = mul-le-mul_left c.loop-byte.value c.requires.base in omega (arith, most, c.loop-byte.invariant.small)

pub returns-then-value-gt18446744073709551615 : goal.returns-then-value-gt18446744073709551615
returns-then-value-gt18446744073709551615 c =
    let i = c.loop-byte.byte-index in
    let v : ℕ = c.args.base * c.loop-byte.value + digit_value (get_or c.args.digits.now i 0) in
    let step = number-digit c.args.base c.loop-byte.value c.args.digits.now i _ c.loop-byte-test.true c.loop-byte.invariant.goes_on in
    let less = le-number_after c.args.base v (drop (i + 1) c.args.digits.now) (omega (arith, c.requires.decimal)) in
    held_big _ (omega (arith, c.digit.ensures.value, c.if-value-gt18446744073709551615.true, step, less))
