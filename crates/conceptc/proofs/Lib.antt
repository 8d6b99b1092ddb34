pub mod ReadingLemmas
pub mod PutsLemmas
pub mod StageLemmas
pub mod AnswersLemmas
