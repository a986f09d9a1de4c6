pub mod NotedEntries
pub mod NoteGrowth
