use Rattle.std.proofs.Common.{refl}
use Rattle.cx_prop.proofs.Tables.{truth_at}
use Rattle.cx_prop.proofs.formulas.Formulas.+holds.Goals as goal

pub returns-in-Atom : goal.returns-in-Atom
returns-in-Atom t c =
    truth_at c.args.self.now c.args.truth.now c.args.f _ c.in-Atom.number _ _ c.requires.atoms c.part.ensures.number c.in-Atom.ensures.top.0 c.in-Atom.ensures.top.1 refl
