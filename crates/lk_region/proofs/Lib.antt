pub mod CutLaws
pub mod RegionLaws
pub mod ChainLaws
