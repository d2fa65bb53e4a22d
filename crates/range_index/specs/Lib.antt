pub mod Hulls
pub mod Owners
pub mod inner
