pub mod Completing
pub mod Feeding
pub mod Fronts
pub mod Glancing
pub mod Scanning
pub mod Spelling
pub mod Tables
