pub mod Counts
pub mod Knowing
pub mod Lists
