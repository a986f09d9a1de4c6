pub mod ReadyWrites
pub mod Laws
pub mod ReadyPlaces
pub mod PlaceLaws
