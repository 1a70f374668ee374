pub mod Keeps
pub mod Large
pub mod Anew
pub mod Wanted
pub mod Steps
pub mod Built
