pub mod Attaching
pub mod Serving
