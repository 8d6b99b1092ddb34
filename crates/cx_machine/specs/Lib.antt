pub mod Scalars
pub mod Arithmetic
pub mod Values
pub mod Machine
