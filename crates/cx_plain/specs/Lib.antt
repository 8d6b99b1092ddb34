pub mod Arithmetic
pub mod Evaluation
pub mod PlainTree
pub mod PlainText
pub mod PlainTyping
pub mod PlainMeaning
pub mod Undefinedness
pub mod Decimal
