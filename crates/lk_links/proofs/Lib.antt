pub mod FailureLaws
pub mod ShareLaws
