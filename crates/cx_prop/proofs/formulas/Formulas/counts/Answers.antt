use Rattle.std.specs.Map.Iter.{deref_pair}
use Rattle.cx_prop.specs.Kept.{mappings}
use Rattle.cx_prop.proofs.Tables.{counts_at, entry_found}
use Rattle.cx_prop.proofs.formulas.Formulas.counts.Goals as goal

pub returns : goal.returns
returns c =
    let t = c.self.inside in
    let e = entry_found deref_pair c.get_index.result c.unwrap.result _ c.unwrap.ensures c.get_index.ensures.entry in
    counts_at (mappings t.maps.keys) t.shapes.entries t.atoms c.args.self.now c.self.view_is c.self.invariant c.args.f c.requires (deref_pair c.unwrap.result) e
