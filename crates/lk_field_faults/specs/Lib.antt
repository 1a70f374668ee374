pub mod ExploreFields
pub mod Expressions
pub mod FieldFaults
pub mod FieldNames
pub mod MadeNames
