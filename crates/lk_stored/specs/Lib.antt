pub mod Reads
pub mod Storing
pub mod StoredFaults
