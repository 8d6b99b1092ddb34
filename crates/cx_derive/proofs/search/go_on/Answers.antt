use Rattle.std.proofs.Common.{inl, refl, sym, ◌∙◌}
use Rattle.cx_derive.proofs.Found.{contains_is}
use Rattle.cx_derive.proofs.search.go_on.Goals as goal

pub returns-then-contains-clause-ok : goal.returns-then-contains-clause-ok
returns-then-contains-clause-ok c =
    inl (sym (contains_is c.args.formulas.now c.requires.distinct c.args.found.now.keys c.args.goal c.requires.found c.requires.goal) ∙ sym c.contains.ensures ∙ c.if-contains.true, refl)
