pub mod Ascending
pub mod Earliest
pub mod Edited
pub mod Written
