pub mod Names
pub mod Outcome
pub mod Refusal
