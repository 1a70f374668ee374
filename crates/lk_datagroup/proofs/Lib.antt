pub mod CountLaws
pub mod IntervalLaws
