pub mod NextItems
pub mod Replies
pub mod Turns
