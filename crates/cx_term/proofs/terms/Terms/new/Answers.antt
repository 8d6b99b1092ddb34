use Rattle.std.proofs.Common.{refl}
use Rattle.cx_term.proofs.Fields.{empty_opened}
use Rattle.cx_term.proofs.terms.Terms.new.Goals as goal

pub invariant_of-result : goal.invariant_of-result
invariant_of-result c = rw (c.new.ensures.empty, c.new-2.ensures.empty) empty_opened.0

pub returns : goal.returns
returns c = rw (c.new.ensures.empty, c.new-2.ensures.empty, empty_opened.1) refl
