pub mod Commands
pub mod inner
