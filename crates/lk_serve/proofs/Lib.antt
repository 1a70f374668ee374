pub mod ConsoleLaws
pub mod ListeningLaws
pub mod MomentLaws
pub mod OpenedLaws
pub mod QueryLaws
pub mod RunLaws
pub mod ScriptLaws
