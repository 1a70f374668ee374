pub mod Lives
pub mod Places
pub mod Staying
