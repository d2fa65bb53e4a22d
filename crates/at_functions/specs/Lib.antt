pub mod Dates
pub mod Numbers
pub mod Readings
pub mod Texts
