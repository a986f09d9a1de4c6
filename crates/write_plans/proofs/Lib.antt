pub mod TakenGroups
pub mod PresentInodes
pub mod RunBounds
pub mod WidthsFound
pub mod PlanParts
