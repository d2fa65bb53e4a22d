pub mod Alike
pub mod Calls
pub mod Combined
pub mod Commands
pub mod Extracted
pub mod Steps
pub mod inner
