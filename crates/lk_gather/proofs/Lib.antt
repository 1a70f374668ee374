pub mod DimLaws
pub mod MeasureLaws
pub mod GatherLaws
pub mod EndLaws
pub mod AnswerLaws
mod CountedLaws
pub mod VisitLaws
pub mod ResolvedLaws
pub mod PlanLaws
