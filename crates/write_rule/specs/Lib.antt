pub mod Runs
pub mod SplicedRun
pub mod WriteRuns
pub mod NewBytes
pub mod Laws
