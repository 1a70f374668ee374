pub mod FormulaKinds
pub mod Dated
pub mod Sides
pub mod DatedNodes
pub mod Samples
