pub mod Regions
pub mod Cuts
pub mod Chains
