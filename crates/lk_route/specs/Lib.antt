pub mod Roles
pub mod Ready
pub mod Fits
pub mod Routes
pub mod Unmet
