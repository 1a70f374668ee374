pub mod YearLaws
pub mod CivilLaws
pub mod FrameLaws
pub mod AgainLaws
pub mod FramingSteps
