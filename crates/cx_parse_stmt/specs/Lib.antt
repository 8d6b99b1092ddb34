pub mod Views
pub mod Within
pub mod Parts
pub mod Parses
