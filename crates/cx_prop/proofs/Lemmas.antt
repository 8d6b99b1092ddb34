-- What other crates may cite of formulas.
pub use Rattle.cx_prop.proofs.Tests.{and_left, and_right, and_both, both_ways}
pub use Rattle.cx_prop.proofs.Same.{same_atomic-Decides, same_formula-Decides, same_term-Decides, same_interned-Decides, same_stored-Decides, law_of_equality}
pub use Rattle.cx_prop.proofs.ClausesLemmas.{law_of_clauses}
pub use Rattle.cx_prop.proofs.CountingLemmas.{law_of_counts}
pub use Rattle.cx_prop.proofs.Renaming.{renamed-equal, same-renamed, truth-renamed, law_of_renaming}
