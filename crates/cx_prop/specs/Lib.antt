pub mod Formula
pub mod Truth
pub mod Clauses
pub mod Counting
pub mod Laws
pub mod Interned
pub mod Table
pub mod Kept
