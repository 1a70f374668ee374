pub mod CellLaws
pub mod RowLaws
pub mod KeyLaws
pub mod ValidLaws
