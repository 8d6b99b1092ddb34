use Rattle.cx_prop.specs.Kept.{mappings}
use Rattle.cx_prop.proofs.Tables.{once_each}
use Rattle.cx_prop.proofs.formulas.Formulas.numbers_are_unique.Goals as goal

pub returns : goal.returns
returns c = once_each (mappings c.self.inside.maps.keys) c.self.inside.shapes.entries c.self.inside.atoms c.args.self.now c.self.view_is c.self.invariant
