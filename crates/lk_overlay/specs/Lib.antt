pub mod Overlay
pub mod Grouped
