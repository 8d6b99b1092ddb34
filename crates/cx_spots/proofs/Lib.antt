pub mod Repeats
pub mod Takes
pub mod WordList
pub mod Rest
pub mod Sound
