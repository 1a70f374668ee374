pub mod Builds
pub mod Samples
