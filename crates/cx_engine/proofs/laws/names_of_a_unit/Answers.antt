use Rattle.cx_engine.proofs.WellNamedLemmas.{fine, only, kinds, redeclared_law, unknown_law}
use Rattle.cx_engine.proofs.laws.names_of_a_unit.Goals as goal

pub returns-clause-fine : goal.returns-clause-fine
returns-clause-fine c = fine

pub returns-clause-only : goal.returns-clause-only
returns-clause-only c = only

pub returns-clause-kinds : goal.returns-clause-kinds
returns-clause-kinds c = kinds

pub returns-clause-redeclared : goal.returns-clause-redeclared
returns-clause-redeclared c = redeclared_law

pub returns-clause-unknown : goal.returns-clause-unknown
returns-clause-unknown c = unknown_law
