pub mod Components
pub mod ExploreNames
pub mod Keys
pub mod Order
pub mod Pieces
pub mod Readings
pub mod Scopes
pub mod Told
