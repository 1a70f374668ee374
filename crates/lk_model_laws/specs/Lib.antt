pub mod Typed
pub mod Named
pub mod Spelled
pub mod Conditions
pub mod Tables
