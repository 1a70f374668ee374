pub mod Replies
pub mod Refusals
