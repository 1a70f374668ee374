pub mod FilterTexts
pub mod Placing
pub mod PlacedModel
