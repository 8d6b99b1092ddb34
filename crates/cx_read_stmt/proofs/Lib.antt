pub mod Concepts
pub mod Levels
