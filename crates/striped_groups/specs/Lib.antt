pub mod StoredGroups
