pub mod RouteLaws
pub mod RollupLaws
pub mod AnswerLaws
