pub mod Changes
pub mod Display
pub mod Screen
pub mod Recorder
pub mod inner
