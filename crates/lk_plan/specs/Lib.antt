pub mod Joining
pub mod TestConditions
pub mod FilterConditions
pub mod FieldFormulas
pub mod TierOperands
pub mod Conditions
