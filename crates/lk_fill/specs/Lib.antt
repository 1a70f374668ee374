pub mod Reads
pub mod Orders
pub mod Fills
pub mod Reached
