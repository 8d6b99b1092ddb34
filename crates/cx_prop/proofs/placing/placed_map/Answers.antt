use Rattle.std.proofs.Common.{sym, ◌∙◌}
use Rattle.cx_prop.proofs.Placed.{map_present, map_new, mapping_found}
use Rattle.cx_prop.proofs.placing.placed_map.Goals as goal

pub returns-in-Some-clause-ok : goal.returns-in-Some-clause-ok
returns-in-Some-clause-ok c = map_present c.args.maps.now.keys c.args.map.now c.in-Some.number (sym c.get_index_of.ensures.index ∙ c.in-Some.is)

pub returns-clause-ok : goal.returns-clause-ok
returns-clause-ok c =
    map_new c.args.maps.now.keys c.insert_full.new.self.keys c.args.map.now c.in_ok-map.map c.in_ok-number.number (sym c.get_index_of.ensures.index ∙ c.in_default.is)
    c.in_ok-map.ensures.items c.in_ok-number.ensures.keys c.in_ok-number.ensures.stored

pub returns-in_err-map-clause-there : goal.returns-in_err-map-clause-there
returns-in_err-map-clause-there c = λ j h. mapping_found c.args.maps.now.keys c.args.map.now j (sym c.get_index_of.ensures.index ∙ c.in_default.is) h

pub returns-in_err-number-clause-there : goal.returns-in_err-number-clause-there
returns-in_err-number-clause-there c = λ j h. mapping_found c.args.maps.now.keys c.args.map.now j (sym c.get_index_of.ensures.index ∙ c.in_default.is) h
