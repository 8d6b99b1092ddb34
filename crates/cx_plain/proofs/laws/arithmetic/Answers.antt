use Rattle.cx_plain.proofs.ArithmeticLaws.{overflow, division, no_quotient, bits, unary_int, binary_int}
use Rattle.cx_plain.proofs.laws.arithmetic.Goals as goal

pub returns-clause-overflow : goal.returns-clause-overflow
returns-clause-overflow c = overflow

pub returns-clause-division : goal.returns-clause-division
returns-clause-division c = division

pub returns-clause-no_quotient : goal.returns-clause-no_quotient
returns-clause-no_quotient c = no_quotient

pub returns-clause-bits : goal.returns-clause-bits
returns-clause-bits c = bits

pub returns-clause-unary : goal.returns-clause-unary
returns-clause-unary c = unary_int

pub returns-clause-binary : goal.returns-clause-binary
returns-clause-binary c = binary_int
