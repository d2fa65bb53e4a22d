-- How the code keeps its books; no definition beside this folder speaks of it.
pub mod Calls
pub mod Fine
pub mod Levels
pub mod Puts
pub mod Reads
