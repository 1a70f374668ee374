pub mod Reading
pub mod Patterns
pub mod Fitting
pub mod Gathering
pub mod Causes
pub mod Following
