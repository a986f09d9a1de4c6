pub mod BufferUnits
pub mod HalfLemmas
pub mod LaneLemmas
pub mod RowLemmas
pub mod TablePlaces
pub mod TotalLemmas
