pub mod Bounds
pub mod Found
pub mod Separators
pub mod Written
