pub mod AnswerLaws
pub mod ListLaws
pub mod MapLaws
pub mod PlaceLaws
pub mod StatusLaws
pub mod TellerLaws
