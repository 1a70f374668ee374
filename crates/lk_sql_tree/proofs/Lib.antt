pub mod TreeLaws
pub mod NodeLaws
pub mod ClauseLaws
