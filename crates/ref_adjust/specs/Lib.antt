pub mod Adjusted
pub mod Laws
pub mod Lines
pub mod Moves
