pub mod CreationLemmas
pub mod WriteLemmas
