use Rattle.std.proofs.Common.{refl}
use Rattle.cx_prop.specs.declared.shape.Shape.TheVariants as shape
use Rattle.cx_prop.specs.Kept.{mappings}
use Rattle.cx_prop.specs.Table.{formula_at}
use Rattle.cx_prop.proofs.Tables.{kept_joined, number_joined, is_joined, grows_joined, there_joined, in_entries}
use Rattle.cx_prop.proofs.formulas.Formulas.and.Goals as goal

pub invariant_of-self : goal.invariant_of-self
invariant_of-self c =
    let t = c.self.inside in
    let maps = mappings t.maps.keys in
    let es = t.shapes.entries in
    let ps = c.args.self.now in
    kept_joined maps es c.placed.new.shapes.entries t.atoms ps (shape.And c.args.p.0 c.args.q.0) (record { counts = c.and-counts.result; atoms = t.atoms }) c.self.view_is c.self.invariant
    (in_entries maps es t.atoms ps c.self.view_is c.self.invariant c.args.p c.requires.left, in_entries maps es t.atoms ps c.self.view_is c.self.invariant c.args.q c.requires.right)
    (c.and-counts.ensures (formula_at ps c.args.p) (formula_at ps c.args.q) c.counts.ensures c.counts-2.ensures) refl refl c.placed.result c.placed.ensures.ok c.placed.ensures.err

pub returns-clause-number : goal.returns-clause-number
returns-clause-number c =
    let t = c.self.inside in
    let maps = mappings t.maps.keys in
    let es = t.shapes.entries in
    let ps = c.args.self.now in
    number_joined maps es c.placed.new.shapes.entries t.atoms ps (shape.And c.args.p.0 c.args.q.0) (record { counts = c.and-counts.result; atoms = t.atoms }) c.self.view_is c.self.invariant
    (in_entries maps es t.atoms ps c.self.view_is c.self.invariant c.args.p c.requires.left, in_entries maps es t.atoms ps c.self.view_is c.self.invariant c.args.q c.requires.right)
    (c.and-counts.ensures (formula_at ps c.args.p) (formula_at ps c.args.q) c.counts.ensures c.counts-2.ensures) refl refl c.placed.result c.placed.ensures.ok

pub returns-clause-ok : goal.returns-clause-ok
returns-clause-ok c =
    let t = c.self.inside in
    let maps = mappings t.maps.keys in
    let es = t.shapes.entries in
    let ps = c.args.self.now in
    is_joined maps es c.placed.new.shapes.entries t.atoms ps (shape.And c.args.p.0 c.args.q.0) (record { counts = c.and-counts.result; atoms = t.atoms }) c.self.view_is c.self.invariant
    (in_entries maps es t.atoms ps c.self.view_is c.self.invariant c.args.p c.requires.left, in_entries maps es t.atoms ps c.self.view_is c.self.invariant c.args.q c.requires.right)
    (c.and-counts.ensures (formula_at ps c.args.p) (formula_at ps c.args.q) c.counts.ensures c.counts-2.ensures) refl refl c.placed.result c.placed.ensures.ok

pub returns-clause-there : goal.returns-clause-there
returns-clause-there c =
    let t = c.self.inside in
    let maps = mappings t.maps.keys in
    let es = t.shapes.entries in
    let ps = c.args.self.now in
    there_joined maps es c.placed.new.shapes.entries t.atoms ps (shape.And c.args.p.0 c.args.q.0) (record { counts = c.and-counts.result; atoms = t.atoms }) c.self.view_is c.self.invariant
    (in_entries maps es t.atoms ps c.self.view_is c.self.invariant c.args.p c.requires.left, in_entries maps es t.atoms ps c.self.view_is c.self.invariant c.args.q c.requires.right)
    (c.and-counts.ensures (formula_at ps c.args.p) (formula_at ps c.args.q) c.counts.ensures c.counts-2.ensures) refl refl c.placed.ensures.there

pub returns-clause-grows : goal.returns-clause-grows
returns-clause-grows c =
    let t = c.self.inside in
    let maps = mappings t.maps.keys in
    let es = t.shapes.entries in
    let ps = c.args.self.now in
    grows_joined maps es c.placed.new.shapes.entries t.atoms ps (shape.And c.args.p.0 c.args.q.0) (record { counts = c.and-counts.result; atoms = t.atoms }) c.self.view_is c.self.invariant
    (in_entries maps es t.atoms ps c.self.view_is c.self.invariant c.args.p c.requires.left, in_entries maps es t.atoms ps c.self.view_is c.self.invariant c.args.q c.requires.right)
    (c.and-counts.ensures (formula_at ps c.args.p) (formula_at ps c.args.q) c.counts.ensures c.counts-2.ensures) refl refl c.placed.result c.placed.ensures.ok c.placed.ensures.err
