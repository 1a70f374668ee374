pub mod Servers
pub mod Recorded
