pub mod NewPlaceLemmas
