pub mod Items
pub mod Jobs
pub mod Steps
pub mod Begun
pub mod JobsWithItemsOut
