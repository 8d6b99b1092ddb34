use Rattle.std.proofs.Common.{◌≡◌, [], ◌∷◌, ◌++◌, sym, subst, ◌∙◌}
use Rattle.indexmap.proofs.CallerLemmas.{insert_entry-new}
use Rattle.cx_term.specs.Table.{tree_of}
use Rattle.cx_term.proofs.Fields.{opened}
use Rattle.cx_term.proofs.Interning.{Interned, Pushed, found_interned, found_small, missing_among, pushed, none_if, within_limits}
use Rattle.cx_term.proofs.Keys.{node_eq}
use Rattle.cx_term.proofs.terms.Terms.intern.Goals as goal

there : (c : goal.In-Some) → Interned c.args.self.now c.args.self.now (tree_of c.args.self.now c.args.node) (record { 0 = c.in-Some.number })
there c =
    found_interned _ c.self.inside.nodes.entries c.self.inside.lists.entries (opened _ _ _ c.self.view_is c.self.invariant) c.args.node c.requires
    c.in-Some.number (sym c.in-Some.ensures.index)

pub returns-in-Some-clause-number : goal.returns-in-Some-clause-number
returns-in-Some-clause-number c = (there c).number

pub returns-in-Some-clause-ok : goal.returns-in-Some-clause-ok
returns-in-Some-clause-ok c = (there c).added

pub returns-in-Some-clause-limit : goal.returns-in-Some-clause-limit
returns-in-Some-clause-limit c =
    rw (found_small _ c.self.inside.nodes.entries c.self.inside.lists.entries (opened _ _ _ c.self.view_is c.self.invariant) c.args.node c.requires c.in-Some.number (sym c.in-Some.ensures.index)) tt

pub returns-then-is_too_large-clause-there : goal.returns-then-is_too_large-clause-there
returns-then-is_too_large-clause-there c =
    rw (missing_among _ c.self.inside.nodes.entries c.self.inside.lists.entries (opened _ _ _ c.self.view_is c.self.invariant) c.args.node c.requires (sym c.in_default.ensures.index)) tt

pub returns-in_err-insert-clause-there : goal.returns-in_err-insert-clause-there
returns-in_err-insert-clause-there c =
    rw (missing_among _ c.self.inside.nodes.entries c.self.inside.lists.entries (opened _ _ _ c.self.view_is c.self.invariant) c.args.node c.requires (sym c.in_default.ensures.index)) tt

-- the node stands last
made : (c : goal.In_ok-insert) → Pushed c.args.self.now c.insert.new.self.entries c.self.inside.lists.entries (tree_of c.args.self.now c.args.node) (record { 0 = c.len-number.result })
made c =
    let ns = c.self.inside.nodes.entries in
    let ls = c.self.inside.lists.entries in
    let small = within_limits c.count-count.result _ _ c.is_too_large.result c.count-count.ensures c.is_too_large.ensures.1 c.if-is_too_large.false in
    let entries : c.insert.new.self.entries ≡ ns ++ (c.args.node, c.count-count.result) ∷ [] =
    c.in_ok-insert.ensures.entries ∙ insert_entry-new node_eq c.self.inside.nodes c.args.node c.count-count.result (none_if _ c.in_default.ensures.found) in
    subst (λ es. Pushed c.args.self.now es ls (tree_of c.args.self.now c.args.node) (record { 0 = c.len-number.result }))
    (sym entries)
    (pushed _ ns ls c.args.node c.count-count.result c.len-number.result c.self.view_is c.self.invariant c.requires c.count-count.ensures small (sym c.in_default.ensures.index) c.len-number.ensures.len)

pub invariant_of-self-2 : goal.invariant_of-self-2
invariant_of-self-2 c = (made c).invariant

pub returns-clause-number : goal.returns-clause-number
returns-clause-number c = (made c).interned.number

pub returns-clause-ok : goal.returns-clause-ok
returns-clause-ok c = (made c).interned.added

pub returns-clause-extends : goal.returns-clause-extends
returns-clause-extends c = (made c).interned.extends
