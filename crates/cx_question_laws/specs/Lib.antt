pub mod Staying
pub mod Laws
pub mod Algorithms
