pub mod FillLaws
pub mod LargeLaws
pub mod LiteralLaws
pub mod NumberLaws
pub mod RoundLaws
pub mod ToldLaws
