pub mod Spelled
pub mod Tokens
pub mod Literals
pub mod Pieces
pub mod Ends
