pub mod Truths
pub mod TruthReading
pub mod Numbers
pub mod NumberReading
