pub mod Tokens
pub mod Lexing
pub mod Functions
pub mod Terminals
pub mod TokenFronts
pub mod TerminalForms
pub mod Quoting
