pub mod Keys
pub mod NameMaps
pub mod Named
pub mod Written
