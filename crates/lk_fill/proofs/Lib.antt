pub mod FillLaws
pub mod NumberLaws
pub mod NumberedLaws
pub mod OrderLaws
pub mod ReachedLaws
