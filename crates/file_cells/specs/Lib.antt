pub mod OpenFiles
pub mod FileEnds
