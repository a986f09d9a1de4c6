pub mod AllDrives
pub mod KindCodes
pub mod SetOfDrives
pub mod JobReaders
pub mod CheckpointReader
pub mod Spelled
