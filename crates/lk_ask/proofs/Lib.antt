pub mod MomentLaws
pub mod AskLaws
pub mod ToldLaws
