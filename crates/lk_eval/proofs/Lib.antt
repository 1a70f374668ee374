pub mod ValueSteps
pub mod KindSteps
pub mod NodeLaws
pub mod LetterLaws
pub mod KindLaws
pub mod FrameSteps
pub mod DateLaws
mod PatternLaws
