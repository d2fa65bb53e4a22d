pub mod Catching
pub mod Changes
pub mod Keys
pub mod RowSpans
pub mod Steps
pub mod inner
