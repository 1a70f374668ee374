pub mod NotNot
pub mod Bounded
pub mod FilterReadings
pub mod RawTrees
pub mod ExprReadings
pub mod BodyReadings
