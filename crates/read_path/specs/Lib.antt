pub mod Segments
pub mod Reads
pub mod PulledRanges
