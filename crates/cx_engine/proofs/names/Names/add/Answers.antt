use Rattle.std.proofs.Common.{◌≡◌, ℕ, List, None, Bor, ◌∙◌, ap}
use Rattle.std.specs.Prelude.{map}
use Rattle.std.specs.Str.{bytes_eq}
use Rattle.std.proofs.lemmas.List.{map_push}
use Rattle.indexmap.proofs.CallerLemmas.{insert_entry-new}
use Rattle.cx_engine.specs.Names.{declaration_of}
use Rattle.cx_engine.proofs.NamesLemmas.{entry_declared, absent-lookup}
use Rattle.cx_engine.proofs.names.Names.add.Goals as goal

pub returns-clause-ok : goal.returns-clause-ok
returns-clause-ok c =
    let new : declaration_of c.args.name.now (map entry_declared c.self.inside.places.entries) ≡ None = rw c.self.view_is c.requires.new in
    let last = insert_entry-new (λ (x y : Bor (List ℕ)). bytes_eq x.now y.now) c.self.inside.places c.args.name c.args.at (absent-lookup c.args.name.now c.self.inside.places.entries new) in
    rw (← c.self.view_is) (ap (map entry_declared) (c.in_ok-insert.ensures.entries ∙ last) ∙ map_push entry_declared c.self.inside.places.entries (c.args.name, c.args.at))
