pub mod Above
pub mod Filled
pub mod Members
pub mod Tables
pub mod Sets
