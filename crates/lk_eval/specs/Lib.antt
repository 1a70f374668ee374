pub mod Operands
pub mod Patterns
pub mod NodeValues
pub mod NodeKinds
