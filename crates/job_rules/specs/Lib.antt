pub mod Kinds
pub mod Phases
pub mod Rank
pub mod Chosen
pub mod Why
