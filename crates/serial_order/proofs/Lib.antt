pub mod RoundLemmas
pub mod OrderLemmas
mod WorkedOrder
