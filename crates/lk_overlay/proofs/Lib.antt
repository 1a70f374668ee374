pub mod TextLaws
pub mod SlotLaws
pub mod MapLaws
pub mod GroupLaws
pub mod LayLaws
pub mod ChildLaws
pub mod MergeLaws
