pub mod StoredLaws
pub mod StoredGroups
pub mod ValueLaws
