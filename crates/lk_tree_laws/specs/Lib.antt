pub mod ViewKeys
pub mod NotResolved
