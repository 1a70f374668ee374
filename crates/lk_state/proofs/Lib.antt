pub mod ContentLaws
pub mod OpeningLaws
