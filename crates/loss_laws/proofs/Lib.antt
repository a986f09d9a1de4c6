pub mod BorneLosses
mod WorkedLosses
