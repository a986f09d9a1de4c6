pub mod InodeBytes
pub mod LevelCodes
pub mod PlacesApart
pub mod EarlierFields
pub mod HeadAndGroups
pub mod InodeReaders
pub mod InodeFields
pub mod SpelledInodes
