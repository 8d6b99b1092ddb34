pub mod Trees
pub mod Words
pub mod Keys
pub mod Stored
pub mod Fields
pub mod Counting
pub mod Interning
