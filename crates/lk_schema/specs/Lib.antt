pub mod Rows
pub mod Schemas
pub mod Users
pub mod ByTable
