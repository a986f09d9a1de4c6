pub mod RoomLemmas
pub mod ShortGroups
