pub mod DatedExplores
pub mod FittingRows
pub mod ReadRows
