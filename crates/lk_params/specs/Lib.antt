pub mod Parameters
pub mod Values
pub mod Picking
pub mod Overlay
pub mod Owners
pub mod Findings
pub mod Known
