pub mod Tests
pub mod Same
pub mod ClausesLemmas
pub mod CountingLemmas
pub mod Renaming
pub mod Tables
pub mod Placed
pub mod Lemmas
