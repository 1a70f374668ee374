pub mod Steps
pub mod SamenessLaws
pub mod PlacingLaws
pub mod ComparingSteps
pub mod UnitLaws
pub mod RelativeLaws
pub mod OneFilterLaws
pub mod PlacedModelLaws
