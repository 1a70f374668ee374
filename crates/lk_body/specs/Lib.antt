pub mod Faults
pub mod Sorts
pub mod Bodies
