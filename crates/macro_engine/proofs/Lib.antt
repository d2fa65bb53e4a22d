pub mod Carrying
pub mod Passes
pub mod Settled
pub mod Stepping
pub mod Writing
