pub mod Counting
pub mod Defining
pub mod Showing
