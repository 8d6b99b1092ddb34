use Rattle.std.proofs.Common.{refl, sym, ap, subst, ◌∙◌, ◌≡◌, ◌<◌, List, true≢false, arith}
use Rattle.std.specs.Map.{keys_of}
use Rattle.cx_numbered.specs.Numbered.{Grows}
use Rattle.cx_numbered.proofs.Numbered.{grows_self}
use Rattle.cx_prop.specs.declared.shape.Noted.{Noted}
use Rattle.cx_prop.specs.declared.shape.Shape.{Shape}
use Rattle.cx_prop.specs.Formula.{Formula}
use Rattle.cx_prop.specs.Interned.{Interned}
use Rattle.cx_prop.specs.Kept.{mappings, formulas_of}
use Rattle.cx_prop.proofs.Tables.{there_map, there_atom, view_more, table_more, few_atoms, kept_atom, number_atom, is_atom, grows_atom, one_of_each, one_each, on_err}
use Rattle.cx_prop.proofs.formulas.Formulas.atom.Goals as goal

pub returns-in_err-map-clause-there : goal.returns-in_err-map-clause-there
returns-in_err-map-clause-there c =
    let t = c.self.inside in
    λ there. there_map (mappings t.maps.keys) t.shapes.entries t.atoms c.args.self.now c.self.view_is c.self.invariant c.args.node c.args.map.now
    (λ j h. absurd (true≢false (sym (c.in_err-map.ensures.there j h)))) there

pub invariant_of-self-in_err-number : goal.invariant_of-self-in_err-number
invariant_of-self-in_err-number c =
    let t = c.self.inside in
    let maps = mappings t.maps.keys in
    let more = mappings c.placed_map.new.maps.keys in
    let es = t.shapes.entries in
    let ps = c.args.self.now in
    table_more maps more es t.atoms ps c.self.view_is c.self.invariant c.args.map.now c.in_ok-map.map c.in_ok-map.ensures.ok c.placed.new.shapes.entries c.in_err-number.ensures.err

pub returns-in_err-number-clause-there : goal.returns-in_err-number-clause-there
returns-in_err-number-clause-there c =
    let t = c.self.inside in
    let maps = mappings t.maps.keys in
    let more = mappings c.placed_map.new.maps.keys in
    let es = t.shapes.entries in
    let ps = c.args.self.now in
    λ there. there_atom maps more es t.atoms ps c.self.view_is c.self.invariant c.args.map.now c.in_ok-map.map c.in_ok-map.ensures.ok c.args.node (λ j h. absurd (true≢false (sym (c.in_err-number.ensures.there j h)))) there

as_before : (c : goal.After-from_residual-in_err-number) → formulas_of (mappings c.placed_map.new.maps.keys) (keys_of c.placed.new.shapes.entries) ≡ c.args.self.now
as_before c =
    let t = c.self.inside in
    let maps = mappings t.maps.keys in
    let more = mappings c.placed_map.new.maps.keys in
    let es = t.shapes.entries in
    let ps = c.args.self.now in
    ap (λ (ds : List (Shape × Noted)). formulas_of more (keys_of ds)) c.in_err-number.ensures.err ∙ view_more maps more es t.atoms ps c.self.view_is c.self.invariant c.args.map.now c.in_ok-map.map c.in_ok-map.ensures.ok

pub returns-in_err-number-clause-grows : goal.returns-in_err-number-clause-grows
returns-in_err-number-clause-grows c = subst (λ (qs : List (Formula Interned)). Grows c.args.self.now qs) (sym (as_before c)) (grows_self c.args.self.now)

pub returns-in_err-number-clause-err : goal.returns-in_err-number-clause-err
returns-in_err-number-clause-err c = on_err c.from_residual-in_err-number.result (as_before c)

pub counted-self-inside-requires-clause-few : goal.counted-self-inside-requires-clause-few
counted-self-inside-requires-clause-few c =
    let t = c.self.inside in
    let maps = mappings t.maps.keys in
    let more = mappings c.placed_map.new.maps.keys in
    let es = t.shapes.entries in
    let ps = c.args.self.now in
    omega (arith, few_atoms maps more es t.atoms ps c.self.view_is c.self.invariant c.args.map.now c.in_ok-map.map c.in_ok-map.ensures.ok, c.len-before.ensures.len)

pub invariant_of-self-2 : goal.invariant_of-self-2
invariant_of-self-2 c =
    let t = c.self.inside in
    let maps = mappings t.maps.keys in
    let more = mappings c.placed_map.new.maps.keys in
    let es = t.shapes.entries in
    let ps = c.args.self.now in
    kept_atom maps more es t.atoms ps c.self.view_is c.self.invariant c.args.map.now c.in_ok-map.map c.in_ok-map.ensures.ok c.args.node (record { counts = one_of_each; atoms = t.atoms }) one_each refl c.placed.new.shapes.entries c.in_ok-number.number.0 c.in_ok-number.ensures.ok c.counted-self-inside.result (λ last. c.counted-self-inside.ensures.new (last ∙ sym c.len-before.ensures.len)) (λ lt. c.counted-self-inside.ensures.old (omega (arith, lt, c.len-before.ensures.len)))

pub returns-clause-number : goal.returns-clause-number
returns-clause-number c =
    let t = c.self.inside in
    let maps = mappings t.maps.keys in
    let more = mappings c.placed_map.new.maps.keys in
    let es = t.shapes.entries in
    let ps = c.args.self.now in
    number_atom maps more es t.atoms ps c.self.view_is c.self.invariant c.args.map.now c.in_ok-map.map c.in_ok-map.ensures.ok c.args.node (record { counts = one_of_each; atoms = t.atoms }) one_each refl c.placed.new.shapes.entries c.in_ok-number.number.0 c.in_ok-number.ensures.ok

pub returns-clause-ok : goal.returns-clause-ok
returns-clause-ok c =
    let t = c.self.inside in
    let maps = mappings t.maps.keys in
    let more = mappings c.placed_map.new.maps.keys in
    let es = t.shapes.entries in
    let ps = c.args.self.now in
    is_atom maps more es t.atoms ps c.self.view_is c.self.invariant c.args.map.now c.in_ok-map.map c.in_ok-map.ensures.ok c.args.node (record { counts = one_of_each; atoms = t.atoms }) one_each refl c.placed.new.shapes.entries c.in_ok-number.number.0 c.in_ok-number.ensures.ok

pub returns-clause-grows : goal.returns-clause-grows
returns-clause-grows c =
    let t = c.self.inside in
    let maps = mappings t.maps.keys in
    let more = mappings c.placed_map.new.maps.keys in
    let es = t.shapes.entries in
    let ps = c.args.self.now in
    grows_atom maps more es t.atoms ps c.self.view_is c.self.invariant c.args.map.now c.in_ok-map.map c.in_ok-map.ensures.ok c.args.node (record { counts = one_of_each; atoms = t.atoms }) one_each refl c.placed.new.shapes.entries c.in_ok-number.number.0 c.in_ok-number.ensures.ok
