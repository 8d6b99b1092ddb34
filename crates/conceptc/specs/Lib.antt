pub mod Command
pub mod Verdict
pub mod Report
pub mod Reading
pub mod Puts
pub mod Decision
pub mod Answers
