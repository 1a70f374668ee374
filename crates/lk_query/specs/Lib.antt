pub mod Refusals
pub mod Callers
pub mod NameOrder
pub mod Names
pub mod Readings
pub mod Bindings
pub mod RequestFilters
pub mod Rows
