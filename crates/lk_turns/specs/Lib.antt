pub mod Doings
pub mod Runs
pub mod Steps
