pub mod NewPlaces
