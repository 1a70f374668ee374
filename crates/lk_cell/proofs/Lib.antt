pub mod DayLaws
pub mod MomentLaws
pub mod CellLaws
