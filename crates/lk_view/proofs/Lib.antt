pub mod FieldListLaws
pub mod InsertLaws
