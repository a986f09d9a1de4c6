pub mod RewrittenBytes
pub mod HeldRuns
pub mod NumberedGroups
pub mod BroughtGroups
mod RepairedRuns
pub mod RepairedPlaces
pub mod RepairedSlots
pub mod BroughtStripes
pub mod BroughtPlaces
pub mod PlacedRuns
pub mod SwitchBounds
pub mod ChangeLemmas
mod InodeTexts
