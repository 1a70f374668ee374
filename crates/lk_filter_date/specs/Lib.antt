pub mod DateTexts
pub mod Dates
pub mod DateReading
pub mod MonthDays
