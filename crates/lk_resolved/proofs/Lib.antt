pub mod NumberLaws
pub mod ColumnLaws
