use Rattle.std.proofs.Common.{sym}
use Rattle.cx_term.proofs.Fields.{opened}
use Rattle.cx_term.proofs.Interning.{found_list, missing_list_among, inserted_list}
use Rattle.cx_term.proofs.terms.Terms.intern_args.Goals as goal

-- the list is there: the table stays

pub returns-in-Some-clause-number : goal.returns-in-Some-clause-number
returns-in-Some-clause-number c =
    (found_list _ c.self.inside.nodes.entries c.self.inside.lists.entries (opened _ _ _ c.self.view_is c.self.invariant) c.args.args.now c.requires
    c.in-Some.number (sym c.in-Some.ensures.index)).number

pub returns-in-Some-clause-ok : goal.returns-in-Some-clause-ok
returns-in-Some-clause-ok c =
    (found_list _ c.self.inside.nodes.entries c.self.inside.lists.entries (opened _ _ _ c.self.view_is c.self.invariant) c.args.args.now c.requires
    c.in-Some.number (sym c.in-Some.ensures.index)).added

-- it is not there: no memory

pub returns-in_err-list-clause-there : goal.returns-in_err-list-clause-there
returns-in_err-list-clause-there c =
    rw (missing_list_among _ c.self.inside.nodes.entries c.self.inside.lists.entries (opened _ _ _ c.self.view_is c.self.invariant) c.args.args.now c.requires (sym c.in_default.ensures.index)) tt

pub returns-in_err-insert-clause-there : goal.returns-in_err-insert-clause-there
returns-in_err-insert-clause-there c =
    rw (missing_list_among _ c.self.inside.nodes.entries c.self.inside.lists.entries (opened _ _ _ c.self.view_is c.self.invariant) c.args.args.now c.requires (sym c.in_default.ensures.index)) tt

-- it stands last

pub invariant_of-self-2 : goal.invariant_of-self-2
invariant_of-self-2 c =
    (inserted_list _ c.self.inside.nodes.entries c.self.inside.lists c.insert.new.self.entries c.in_ok-list.list c.count_all-count.result c.len-number.result c.args.args.now
    c.in_ok-list.ensures.items c.in_ok-insert.ensures.entries c.in_default.ensures.found c.self.view_is c.self.invariant c.requires
    c.count_all-count.ensures.counts c.count_all-count.ensures.shallow (sym c.in_default.ensures.index) c.len-number.ensures.len).invariant

pub returns-clause-number : goal.returns-clause-number
returns-clause-number c =
    (inserted_list _ c.self.inside.nodes.entries c.self.inside.lists c.insert.new.self.entries c.in_ok-list.list c.count_all-count.result c.len-number.result c.args.args.now
    c.in_ok-list.ensures.items c.in_ok-insert.ensures.entries c.in_default.ensures.found c.self.view_is c.self.invariant c.requires
    c.count_all-count.ensures.counts c.count_all-count.ensures.shallow (sym c.in_default.ensures.index) c.len-number.ensures.len).interned.number

pub returns-clause-ok : goal.returns-clause-ok
returns-clause-ok c =
    (inserted_list _ c.self.inside.nodes.entries c.self.inside.lists c.insert.new.self.entries c.in_ok-list.list c.count_all-count.result c.len-number.result c.args.args.now
    c.in_ok-list.ensures.items c.in_ok-insert.ensures.entries c.in_default.ensures.found c.self.view_is c.self.invariant c.requires
    c.count_all-count.ensures.counts c.count_all-count.ensures.shallow (sym c.in_default.ensures.index) c.len-number.ensures.len).interned.added

pub returns-clause-extends : goal.returns-clause-extends
returns-clause-extends c =
    (inserted_list _ c.self.inside.nodes.entries c.self.inside.lists c.insert.new.self.entries c.in_ok-list.list c.count_all-count.result c.len-number.result c.args.args.now
    c.in_ok-list.ensures.items c.in_ok-insert.ensures.entries c.in_default.ensures.found c.self.view_is c.self.invariant c.requires
    c.count_all-count.ensures.counts c.count_all-count.ensures.shallow (sym c.in_default.ensures.index) c.len-number.ensures.len).interned.extends
