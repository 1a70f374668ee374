pub mod HistoryLaws
pub mod OfficeLaws
pub mod OpeningLaws
pub mod PlanLaws
pub mod StandingLaws
pub mod VersionLaws
