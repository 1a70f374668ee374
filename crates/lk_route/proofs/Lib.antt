pub mod NumberLaws
pub mod RoleLaws
pub mod WithinLaws
pub mod ReadyLaws
pub mod FitLaws
pub mod RouteLaws
