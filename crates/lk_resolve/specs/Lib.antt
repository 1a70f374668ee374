pub mod Loading
pub mod Objects
pub mod Resolving
