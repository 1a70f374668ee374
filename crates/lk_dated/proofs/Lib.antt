pub mod KindLaws
pub mod ReadLaws
pub mod SideLaws
pub mod DatedLaws
pub mod TreeLaws
pub mod NodeLaws
pub mod WrittenLaws
pub mod PassLaws
