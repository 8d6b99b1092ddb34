use Rattle.std.proofs.Common.{◌∙◌}
use Rattle.cx_engine.proofs.NamesLemmas.{number-position}
use Rattle.cx_engine.proofs.names.Names.number_of.Goals as goal

pub returns-clause-number : goal.returns-clause-number
returns-clause-number c = rw (← c.self.view_is) (c.get_index_of.ensures.index ∙ number-position c.args.name.now c.self.inside.places.entries)
