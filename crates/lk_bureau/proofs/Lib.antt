pub mod PaddingLaws
pub mod StepLaws
