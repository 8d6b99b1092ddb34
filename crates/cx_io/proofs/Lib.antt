mod Growing
mod Moves
pub mod Pieces
