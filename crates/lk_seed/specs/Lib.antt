pub mod Faults
pub mod Seeds
