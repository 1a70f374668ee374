pub mod Loads
pub mod Requests
pub mod Sessions
