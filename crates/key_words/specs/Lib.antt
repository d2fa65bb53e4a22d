pub mod Commands
pub mod MacroText
pub mod Names
pub mod Notation
pub mod Reading
pub mod inner
