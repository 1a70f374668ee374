pub mod Causes
pub mod Memory
pub mod Saved
pub mod Saving
