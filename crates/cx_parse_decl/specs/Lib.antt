pub mod Functions
pub mod Units
pub mod Views
pub mod Whole
