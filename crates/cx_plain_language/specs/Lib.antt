pub mod Tree
pub mod View
pub mod Text
pub mod Typing
pub mod Meaning
pub mod StepsLeft
