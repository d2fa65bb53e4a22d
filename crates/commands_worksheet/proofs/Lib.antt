pub mod Acts
pub mod Erased
