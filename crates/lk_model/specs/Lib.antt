pub mod Counts
pub mod Faults
pub mod Models
pub mod ViewKinds
