pub mod AnswerLaws
pub mod JsonLaws
