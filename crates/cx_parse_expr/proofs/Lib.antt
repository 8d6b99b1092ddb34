pub mod Knot
pub mod Asked
pub mod Rests
pub mod Answering
pub mod Unread
pub mod Parsed
