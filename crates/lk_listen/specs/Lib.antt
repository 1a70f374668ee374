pub mod Arrivals
pub mod System
