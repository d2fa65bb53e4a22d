pub mod Formulas
pub mod Levels
pub mod Nodes
pub mod Parts
pub mod Ranged
pub mod Redirected
pub mod Rows
pub mod Values
