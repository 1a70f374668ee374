pub mod Components
pub mod Asking
pub mod PartSets
pub mod Roles
pub mod Standings
