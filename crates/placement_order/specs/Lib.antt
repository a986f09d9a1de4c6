pub mod Order
pub mod Room
pub mod OrderLaws
pub mod PassedDrives
pub mod Stages
pub mod Turns
pub use Rattle.domains.specs.Drive.{Drive, same_drive, is_in, AreApart}
pub use Rattle.domains.specs.Room.{drives_on, room_of}
