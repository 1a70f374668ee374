pub mod Asked
pub mod Dims
pub mod Gathers
pub mod Groups
pub mod Measures
pub mod Moments
