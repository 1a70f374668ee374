pub mod Words
pub mod Quoting
pub mod Tokens
pub mod Machine
pub mod Expressions
