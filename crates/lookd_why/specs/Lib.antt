pub mod Words
pub mod Stops
pub mod Replies
pub mod Lines
pub mod Tellings
pub mod Runs
