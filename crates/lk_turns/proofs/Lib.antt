pub mod FailureLaws
pub mod RunLaws
pub mod StepLaws
pub mod WayLaws
