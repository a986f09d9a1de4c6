pub mod BorneLosses
pub mod Laws
