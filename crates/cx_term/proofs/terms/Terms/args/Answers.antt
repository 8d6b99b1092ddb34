use Rattle.cx_term.proofs.Fields.{members_within}
use Rattle.cx_term.proofs.terms.Terms.args.Goals as goal

pub returns-clause-smaller : goal.returns-clause-smaller
returns-clause-smaller c = members_within c.args.self.now c.stored_list.result.0.now _ c.stored_list.ensures.list
