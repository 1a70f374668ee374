pub mod AnswerLaws
pub mod FailureLaws
pub mod RecordedLaws
pub mod ServingLaws
pub mod StayLaws
