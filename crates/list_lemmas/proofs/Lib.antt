pub mod Booleans
pub mod Mapped
pub mod Options
pub mod Results
pub mod Takes
