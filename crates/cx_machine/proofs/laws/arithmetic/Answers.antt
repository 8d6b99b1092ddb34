use Rattle.cx_machine.proofs.Edges.{overflow, division, shifts, bits, conversions}
use Rattle.cx_machine.proofs.laws.arithmetic.Goals as goal

pub returns : goal.returns
returns c = record { overflow = overflow; division = division; shifts = shifts; bits = bits; conversions = conversions }
