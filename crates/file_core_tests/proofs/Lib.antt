pub mod ExampleFile
pub mod PlacedInode
mod BarsThatStay
