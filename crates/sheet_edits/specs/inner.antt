-- How the code keeps its books; no definition beside this folder speaks of it.
pub mod Lines
pub mod Marks
pub mod Parts
pub mod Putting
pub mod Ranks
pub mod Settling
pub mod Undoing
