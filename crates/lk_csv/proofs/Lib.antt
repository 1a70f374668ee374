pub mod ReadingLaws
pub mod FieldLaws
