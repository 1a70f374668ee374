pub mod TurnLaws
pub mod LedgerLaws
pub mod OpeningLaws
pub mod ServedLaws
