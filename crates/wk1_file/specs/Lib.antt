pub mod Files
pub mod Said
pub mod Saved
pub mod Sheets
pub mod inner
