pub mod Values
pub mod Nesting
pub mod Sources
pub mod Lines
