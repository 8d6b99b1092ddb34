use Rattle.std.proofs.Common.{ap, Ok}
use Rattle.cx_prop.specs.Kept.{mappings}
use Rattle.cx_prop.proofs.Tables.{nothing_kept, formulas_of-nothing}
use Rattle.cx_prop.proofs.formulas.Formulas.new.Goals as goal

pub invariant_of-result : goal.invariant_of-result
invariant_of-result c = nothing_kept c.new.result.keys c.new-2.result.entries c.new.ensures.empty c.new-2.ensures.empty

pub returns : goal.returns
returns c = ap Ok (formulas_of-nothing (mappings c.new.result.keys) c.new-2.result.entries c.new-2.ensures.empty)
