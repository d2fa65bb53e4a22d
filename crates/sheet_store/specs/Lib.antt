pub mod Choices
pub mod Grid
pub mod Limits
pub mod State
pub mod inner
