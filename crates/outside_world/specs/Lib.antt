pub mod Causes
pub mod Clock
pub mod FileNames
pub mod Journal
pub mod Keys
pub mod Notes
pub mod Shelf
pub mod Told
