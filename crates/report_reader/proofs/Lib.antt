mod WorkedLogs
pub mod Cuts
pub mod CommaLists
pub mod WordsTold
pub mod BoardTold
pub mod RefusalTold
pub mod FileTold
pub mod LogsTold
pub mod Parted
pub mod GroupsParted
pub mod ReadRefusals
pub mod ReadEvents
pub mod EventWords
pub mod DecodedBytes
