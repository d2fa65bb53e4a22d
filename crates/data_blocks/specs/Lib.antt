pub mod Benches
pub mod Distribution
pub mod Filling
pub mod Ranges
pub mod Sorting
pub mod Tables
pub mod inner
