pub mod Causes
pub mod Folder
pub mod Links
pub mod Memory
pub mod Moments
pub mod Streams
pub mod System
