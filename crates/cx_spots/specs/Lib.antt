pub mod Classes
pub mod Ends
pub mod Spots
pub mod Views
