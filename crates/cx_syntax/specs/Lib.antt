pub mod Contexts
pub mod States
pub mod Productions
pub mod Combinators
pub mod Classes
pub mod Precedence
