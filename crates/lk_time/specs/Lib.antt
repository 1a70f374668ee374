pub mod FrameValues
pub mod CivilDates
