pub mod DatedAnswers
pub mod DatedModels
pub mod FittingJoins
pub mod FittingAnswers
pub mod FittingModels
pub mod ReadRows
