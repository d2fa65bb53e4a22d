pub mod Ended
pub mod Relabelled
pub mod Valued
