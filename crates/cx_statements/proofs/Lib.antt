pub mod Productions
pub mod Walks
