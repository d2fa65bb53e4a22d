pub mod Cutting
pub mod Keeping
pub mod Nameless
pub mod Splitting
pub mod Units
