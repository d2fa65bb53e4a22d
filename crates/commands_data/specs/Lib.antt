pub mod Answers
pub mod Commands
pub mod Kept
pub mod Made
pub mod TableCommands
pub mod Trying
pub mod inner
