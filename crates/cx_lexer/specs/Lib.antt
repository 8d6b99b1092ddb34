pub mod Characters
pub mod Words
pub mod Literals
pub mod Places
pub mod Tokens
pub mod Reading
pub mod Division
