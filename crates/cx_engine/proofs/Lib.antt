pub mod FormsLemmas
pub mod NamesLemmas
pub mod ResolutionLemmas
pub mod MeaningLemmas
pub mod WellNamedLemmas
