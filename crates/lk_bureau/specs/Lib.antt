pub mod Outcomes
pub mod Holdings
pub mod Steps
pub mod Told
