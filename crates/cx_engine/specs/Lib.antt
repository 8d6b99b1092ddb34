pub mod Definitions
pub mod Forms
pub mod Names
pub mod Plain
pub mod SourceMeaning
pub mod WellNamed
