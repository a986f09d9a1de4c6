pub mod NoteLogLemmas
pub mod FileGrowth
pub mod GroupLookups
pub mod CreatedFile
pub mod FileAccounts
pub mod PulledSlots
pub mod DecodableGroups
pub mod PulledBytes
pub mod StoredPlacesLemmas
mod LeftLemmas
mod SwitchedFile
mod SwitchedRuns
mod ReadyChanges
mod ReadyBounds
mod ExchangedMaps
mod SwitchedHead
mod WrittenChanges
mod PreparedChanges
mod ExchangedFiles
