pub mod Arguments
pub mod Kept
pub mod Listed
pub mod Ranges
pub mod Read
pub mod Texts
pub mod Units
pub mod inner
