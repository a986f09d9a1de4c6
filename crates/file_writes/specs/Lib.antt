pub mod WriteTerms
pub mod WriteRefusals
pub mod WriteTries
