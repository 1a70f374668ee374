pub mod TruthLaws
pub mod NumberReadingLaws
pub mod NumberTokenLaws
pub mod NumberFormLaws
pub mod UnreadLaws
