pub mod Pieces
pub mod States
pub mod Classes
pub mod Reads
