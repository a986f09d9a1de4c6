pub mod WriteRoom
pub mod WriteTryLemmas
pub mod WriteAccounts
