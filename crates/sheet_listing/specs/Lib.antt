pub mod Ending
pub mod Lines
pub mod Listed
pub mod inner
pub mod Waiting
