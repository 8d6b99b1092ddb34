pub mod Closed
pub mod Loops
