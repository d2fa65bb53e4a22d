pub mod Appended
pub mod Bytes
pub mod Endings
pub mod Fields
pub mod Fronts
pub mod Notes
