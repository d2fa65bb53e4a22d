pub mod Channels
pub mod Lines
pub mod inner
