use Rattle.std.proofs.Common.{sym, ◌∙◌}
use Rattle.cx_engine.proofs.NamesLemmas.{place-lookup}
use Rattle.cx_engine.proofs.names.Names.place_of.Goals as goal

pub returns : goal.returns
returns c = rw (← c.self.view_is) (c.copied.ensures ∙ c.get.ensures.value ∙ sym (place-lookup c.args.name.now c.self.inside.places.entries))
