pub mod Tallies
pub mod Pools
pub use Rattle.slot_pool.specs.Tallies.{IsEven, HasKept, found_none, gave, kept_of, no_tally, numbers_of, tally_at, took}
pub use Rattle.slot_pool.specs.Pools.{AreSlotsOf, IsPool, PoolView, counted}
