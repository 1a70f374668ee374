pub mod ValueLaws
pub mod NestingLaws
pub mod SetLaws
pub mod OrderLaws
pub mod SourceLaws
