use Rattle.std.proofs.Common.{sym, ◌∙◌}
use Rattle.std.specs.Map.{keys_of}
use Rattle.cx_prop.proofs.Placed.{placed_present, placed_new, shape_found}
use Rattle.cx_prop.proofs.placing.placed.Goals as goal

pub returns-in-Some-clause-ok : goal.returns-in-Some-clause-ok
returns-in-Some-clause-ok c = placed_present c.args.shapes.now.entries c.args.shape c.args.noted c.in-Some.number (sym c.get_index_of.ensures.index ∙ c.in-Some.is)

pub returns-clause-ok : goal.returns-clause-ok
returns-clause-ok c =
    placed_new c.args.shapes.now.entries c.insert_full.new.self.entries c.args.shape c.args.noted c.in_ok-number.number (sym c.get_index_of.ensures.index ∙ c.in_default.is)
    c.in_ok-number.ensures.entries c.in_ok-number.ensures.index c.in_ok-number.ensures.within

pub returns-in_err-number-clause-there : goal.returns-in_err-number-clause-there
returns-in_err-number-clause-there c = λ j h. shape_found (keys_of c.args.shapes.now.entries) c.args.shape j (sym c.get_index_of.ensures.index ∙ c.in_default.is) h
