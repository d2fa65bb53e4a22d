pub mod Format
pub mod Numbers
pub mod Labels
pub mod Indicator
