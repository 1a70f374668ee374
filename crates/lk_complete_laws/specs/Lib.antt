pub mod Holding
pub mod Readings
pub mod Bodies
