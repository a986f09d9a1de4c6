pub mod DeadUnits
pub mod Heads
pub mod LeftGenerations
pub mod Parts
pub mod PullRefusals
pub mod ClearFiles
