pub mod Context
pub mod InOrder
pub mod Passes
pub mod Reading
pub mod Spans
pub mod inner
