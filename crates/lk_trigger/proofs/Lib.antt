pub mod NumberLaws
pub mod TriggerLaws
