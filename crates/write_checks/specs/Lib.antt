pub mod MapFacts
pub mod Plans
