use Rattle.std.proofs.Common.{ℕ, ap, sym, ◌∙◌, get_or, Some}
use Rattle.std.specs.Global.{Vec}
use Rattle.std.specs.Map.Iter.{deref_pair}
use Rattle.cx_base.specs.declared.numbers.TermId.{TermId}
use Rattle.cx_numbered.proofs.Numbered.{get_is, get_or_map}
use Rattle.cx_prop.specs.Kept.{Mapping, mappings}
use Rattle.cx_prop.proofs.Tables.{number_of, map_below, atom_top, and_top, or_top, entry_found}
use Rattle.cx_prop.proofs.formulas.Formulas.part.Goals as goal

pub returns-in-Atom-clause-top : goal.returns-in-Atom-clause-top
returns-in-Atom-clause-top c =
    let t = c.self.inside in
    let maps = mappings t.maps.keys in
    let es = t.shapes.entries in
    let e = entry_found deref_pair c.get_index.result c.unwrap.result _ c.unwrap.ensures c.get_index.ensures.entry in
    let v = c.index-as_slice-map.result in
    let lt = map_below maps es t.atoms c.args.self.now c.self.view_is c.self.invariant c.args.f c.requires (deref_pair c.unwrap.result) c.in-Atom.node c.in-Atom.map e c.in-Atom.is in
    let is = c.index-as_slice-map.is ∙ ap (λ ks. get_or ks c.in-Atom.map v) c.as_slice.ensures.keys in
    let at = get_is maps c.in-Atom.map v.items lt ∙ ap (λ (m : Mapping). Some m) (get_or_map (λ (w : Vec (ℕ × TermId)). w.items) t.maps.keys c.in-Atom.map v ∙ ap (λ (w : Vec (ℕ × TermId)). w.items) (sym is) ∙ sym c.deref.ensures.value) in
    atom_top maps es t.atoms c.args.self.now c.self.view_is c.self.invariant c.args.f c.requires (deref_pair c.unwrap.result) c.in-Atom.node c.in-Atom.map c.deref.result.now e c.in-Atom.is at

pub returns-in-Atom-clause-number : goal.returns-in-Atom-clause-number
returns-in-Atom-clause-number c =
    let t = c.self.inside in
    let maps = mappings t.maps.keys in
    let es = t.shapes.entries in
    number_of maps es t.atoms c.args.self.now c.self.view_is c.self.invariant c.args.f c.requires

pub returns-in-And-clause-top : goal.returns-in-And-clause-top
returns-in-And-clause-top c =
    let t = c.self.inside in
    let maps = mappings t.maps.keys in
    let es = t.shapes.entries in
    let e = entry_found deref_pair c.get_index.result c.unwrap.result _ c.unwrap.ensures c.get_index.ensures.entry in
    and_top maps es t.atoms c.args.self.now c.self.view_is c.self.invariant c.args.f c.requires (deref_pair c.unwrap.result) c.in-And.p c.in-And.q e c.in-And.is

pub returns-in-And-clause-number : goal.returns-in-And-clause-number
returns-in-And-clause-number c =
    let t = c.self.inside in
    let maps = mappings t.maps.keys in
    let es = t.shapes.entries in
    number_of maps es t.atoms c.args.self.now c.self.view_is c.self.invariant c.args.f c.requires

pub returns-in-Or-clause-top : goal.returns-in-Or-clause-top
returns-in-Or-clause-top c =
    let t = c.self.inside in
    let maps = mappings t.maps.keys in
    let es = t.shapes.entries in
    let e = entry_found deref_pair c.get_index.result c.unwrap.result _ c.unwrap.ensures c.get_index.ensures.entry in
    or_top maps es t.atoms c.args.self.now c.self.view_is c.self.invariant c.args.f c.requires (deref_pair c.unwrap.result) c.in-Or.p c.in-Or.q e c.in-Or.is

pub returns-in-Or-clause-number : goal.returns-in-Or-clause-number
returns-in-Or-clause-number c =
    let t = c.self.inside in
    let maps = mappings t.maps.keys in
    let es = t.shapes.entries in
    number_of maps es t.atoms c.args.self.now c.self.view_is c.self.invariant c.args.f c.requires
