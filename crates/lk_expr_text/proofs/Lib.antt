pub mod ParseSteps
pub mod ParseSound
pub mod ParseFound
pub mod ReadLaws
