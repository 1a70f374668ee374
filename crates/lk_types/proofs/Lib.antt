pub mod NodeLaws
pub mod MentionLaws
pub mod FittingLaws
pub mod UnfoldedLaws
pub mod ShapeLaws
