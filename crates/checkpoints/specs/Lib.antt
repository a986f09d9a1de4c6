pub mod Saved
pub mod CheckpointFields
