pub mod FirstForm
pub mod Wholes
