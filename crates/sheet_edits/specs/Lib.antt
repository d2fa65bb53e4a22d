pub mod Edits
pub mod Spans
pub mod inner
