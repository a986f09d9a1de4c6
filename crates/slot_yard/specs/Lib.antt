pub mod Tallies
pub mod Queues
pub mod Yards
pub use Rattle.slot_yard.specs.Tallies.{HasLeft, Left, count_all, count_one, counts_of, left_of, no_counts, numbers_of, rank_of, tally_at}
pub use Rattle.slot_yard.specs.Queues.{AreQueues, IsOldest, by_drive, queue_of, with_queue, with_slot}
pub use Rattle.slot_yard.specs.Yards.{IsNewYard, IsYard, YardView, moved, without_drive}
