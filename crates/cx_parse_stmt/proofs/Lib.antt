pub mod Behind
pub mod Binds
pub mod Concepts
pub mod Knot
pub mod Strings
pub mod Parsed
