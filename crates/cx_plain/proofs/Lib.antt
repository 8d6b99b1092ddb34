pub mod Constant
pub mod ListText
pub mod Decimal
pub mod ArithmeticLaws
pub mod MoreSteps
pub mod TypedRuns
