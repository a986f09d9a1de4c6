pub mod FileTurnLemmas
pub mod UsableDrives
pub mod FileRoom
pub mod NewInode
pub mod PathAccountLemmas
pub mod PathTurns
