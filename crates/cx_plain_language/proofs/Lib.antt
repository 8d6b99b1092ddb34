pub mod Constants
pub mod Lookups
pub mod Joins
pub mod ExprTexts
pub mod StmtTexts
pub mod Numbers
pub mod LiteralTexts
pub mod StepsLeft
