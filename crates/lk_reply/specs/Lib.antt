pub mod Refusals
pub mod Answers
pub mod JsonAnswers
pub mod Statuses
