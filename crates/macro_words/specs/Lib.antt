pub mod Items
pub mod Keys
pub mod Moves
pub mod Rows
pub mod Shown
pub mod Sources
pub mod Values
