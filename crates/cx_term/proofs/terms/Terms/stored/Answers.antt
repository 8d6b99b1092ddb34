use Rattle.std.proofs.Common.{ap, sym, ◌∙◌}
use Rattle.std.specs.Option.{option_map}
use Rattle.std.specs.Map.Iter.{deref_pair}
use Rattle.cx_term.proofs.Fields.{StoredAt, opened, stored_at}
use Rattle.cx_term.proofs.terms.Terms.stored.Goals as goal

found : (c : goal.After-result-2-1) → StoredAt c.args.self.now c.args.t.0 (c.unwrap.result.0.now, c.unwrap.result.1.now)
found c =
    stored_at _ c.self.inside.nodes.entries c.self.inside.lists.entries (opened _ _ _ c.self.view_is c.self.invariant) c.args.t.0 _
    (sym c.get_index.ensures.entry ∙ ap (option_map deref_pair) c.unwrap.ensures)

pub returns-clause-parts : goal.returns-clause-parts
returns-clause-parts c = (found c).parts

pub returns-clause-tree : goal.returns-clause-tree
returns-clause-tree c = (found c).tree

pub returns-clause-number : goal.returns-clause-number
returns-clause-number c = (found c).number

pub returns-clause-small : goal.returns-clause-small
returns-clause-small c = (found c).small

pub returns-clause-counts : goal.returns-clause-counts
returns-clause-counts c = (found c).counts

pub returns-clause-shallow : goal.returns-clause-shallow
returns-clause-shallow c = (found c).shallow
