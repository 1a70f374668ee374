pub mod RowLaws
pub mod TableLaws
mod Examples
pub mod MapLaws
