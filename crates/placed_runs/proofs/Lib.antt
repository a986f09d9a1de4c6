pub mod GivenBack
pub mod PlacedSlots
pub mod RunSteps
mod RetiredUnit
