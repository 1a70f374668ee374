pub mod States
pub mod Limits
pub mod Tables
pub mod Openings
