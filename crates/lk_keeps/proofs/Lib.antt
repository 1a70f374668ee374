pub mod ListLaws
pub mod AnewLaws
pub mod WantedLaws
pub mod MakingLaws
pub mod BuiltLaws
