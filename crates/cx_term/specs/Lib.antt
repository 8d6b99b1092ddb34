pub mod Term
pub mod TermCode
pub mod Same
pub mod Size
pub mod Table
pub mod Code
pub mod Layout
