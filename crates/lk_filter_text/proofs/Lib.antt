pub mod CharacterLaws
pub mod TextTrimLaws
pub mod TextPartLaws
pub mod TextReadingLaws
pub mod TextTokenLaws
pub mod TextFormLaws
