pub mod Existing
pub mod FieldSets
pub mod Reaching
pub mod Rows
pub mod Scopes
pub mod Substituted
pub mod SubstitutedNodes
