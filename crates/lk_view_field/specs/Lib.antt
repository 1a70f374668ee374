pub mod FieldFindings
pub mod FieldValues
pub mod Fields
