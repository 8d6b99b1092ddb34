pub mod Edges
pub mod Lives
pub mod Ranges
