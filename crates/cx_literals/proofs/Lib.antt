pub mod Front
pub mod LiteralLemmas
