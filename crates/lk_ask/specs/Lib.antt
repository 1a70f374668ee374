pub mod Asks
pub mod Counts
