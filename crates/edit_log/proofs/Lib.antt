pub mod AtOnce
pub mod Changed
