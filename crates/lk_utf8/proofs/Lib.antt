pub mod CompletionLaws
mod Encodings
pub mod Utf8Laws
pub mod EveryLaws
