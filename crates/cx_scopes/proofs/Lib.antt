pub mod FrameLemmas
pub mod Stack
pub mod Lawful
