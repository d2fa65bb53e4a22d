pub mod Bands
pub mod Cells
pub mod Jobs
pub mod Lines
pub mod Pages
pub mod Running
pub mod inner
