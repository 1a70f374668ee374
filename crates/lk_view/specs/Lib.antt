pub mod DerivedTables
pub mod FieldOrder
pub mod Tables
pub mod ViewFindings
pub mod Views
