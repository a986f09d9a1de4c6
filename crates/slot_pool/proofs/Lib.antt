pub mod NewPool
pub mod ClosedPool
