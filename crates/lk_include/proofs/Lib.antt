pub mod FittingLaws
pub mod ListingLaws
pub mod NameSteps
pub mod ReadingLaws
pub mod ReadSteps
