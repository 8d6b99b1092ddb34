use Rattle.std.proofs.Common.{ap, sym, ◌∙◌, arith}
use Rattle.std.specs.Option.{option_map}
use Rattle.std.specs.Map.Iter.{deref_pair}
use Rattle.cx_term.proofs.Fields.{StoredListAt, opened, list_stored_at, how_many_lists}
use Rattle.cx_term.proofs.terms.Terms.stored_list.Goals as goal

pub unwrap-requires : goal.unwrap-requires
unwrap-requires c =
    c.get_index.ensures.found.1 (omega (arith, c.requires, how_many_lists _ c.self.inside.nodes.entries c.self.inside.lists.entries (opened _ _ _ c.self.view_is c.self.invariant)))

found : (c : goal.After-result-1) → StoredListAt c.args.self.now c.args.a.0 (c.unwrap.result.0.now, c.unwrap.result.1.now)
found c =
    list_stored_at _ c.self.inside.nodes.entries c.self.inside.lists.entries (opened _ _ _ c.self.view_is c.self.invariant) c.args.a.0 _
    (sym c.get_index.ensures.entry ∙ ap (option_map deref_pair) c.unwrap.ensures)

pub returns-clause-terms : goal.returns-clause-terms
returns-clause-terms c = rw c.as_slice.ensures.value (found c).terms

pub returns-clause-list : goal.returns-clause-list
returns-clause-list c = rw c.as_slice.ensures.value (found c).list

pub returns-clause-number : goal.returns-clause-number
returns-clause-number c = (found c).number

pub returns-clause-small : goal.returns-clause-small
returns-clause-small c = rw c.as_slice.ensures.value (found c).small

pub returns-clause-counts : goal.returns-clause-counts
returns-clause-counts c = (found c).counts

pub returns-clause-shallow : goal.returns-clause-shallow
returns-clause-shallow c = (found c).shallow
