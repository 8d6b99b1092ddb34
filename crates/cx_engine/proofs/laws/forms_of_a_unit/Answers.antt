use Rattle.cx_engine.proofs.FormsLemmas.{fine, only, whole, first}
use Rattle.cx_engine.proofs.laws.forms_of_a_unit.Goals as goal

pub returns-clause-fine : goal.returns-clause-fine
returns-clause-fine c = fine

pub returns-clause-only : goal.returns-clause-only
returns-clause-only c = only

pub returns-clause-whole : goal.returns-clause-whole
returns-clause-whole c = whole

pub returns-clause-first : goal.returns-clause-first
returns-clause-first c = first
