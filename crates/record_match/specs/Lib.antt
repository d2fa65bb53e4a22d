pub mod Criteria
pub mod Databases
pub mod Fields
