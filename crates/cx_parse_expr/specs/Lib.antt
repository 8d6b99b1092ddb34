pub mod Views
pub mod Asks
pub mod Parses
