use Rattle.cx_derive.proofs.StepLemmas.{found_number}
use Rattle.cx_derive.proofs.steps.number.Goals as goal

pub returns : goal.returns
returns c =
    found_number c.args.formulas.now c.requires.distinct c.args.found.now.keys c.args.goal.now c.unwrap_or.result c.len.result c.get_index_of.result c.requires.found c.requires.goal c.get_index_of.ensures.index c.len.ensures.len c.unwrap_or.ensures
