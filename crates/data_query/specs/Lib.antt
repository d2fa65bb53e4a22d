pub mod Extraction
pub mod Selection
pub mod inner
