pub mod Values
pub mod Joins
pub mod PartFindings
pub mod ExploreFilters
pub mod Rollups
pub mod Explores
