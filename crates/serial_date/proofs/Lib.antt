pub mod CivilDates
pub mod DayNumbers
pub mod Walks
