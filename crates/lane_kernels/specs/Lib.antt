pub mod Halves
pub mod Lanes
pub mod Rows
pub mod WeightedSums
pub use Rattle.galois.specs.Field
pub use Rattle.lane_kernels.specs.WeightedSums.{units_in, column_of, weighted_sum, IsWeightedSum}
