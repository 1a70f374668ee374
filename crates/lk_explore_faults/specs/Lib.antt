pub mod Conditions
pub mod ExploreFaults
pub mod ExploreTexts
pub mod FilterFaults
pub mod JoinFaults
pub mod RelativeDates
pub mod StoredQueries
pub mod ViewFaults
