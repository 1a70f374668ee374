pub mod ComponentLaws
pub mod StackedLaws
pub mod AskingLaws
pub mod RoundLaws
pub mod PartSetLaws
pub mod RoleLaws
pub mod StandingLaws
