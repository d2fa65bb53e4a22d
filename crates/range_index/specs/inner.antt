-- How the code keeps its books; no definition beside this folder speaks of it.
pub mod Around
pub mod Blocks
pub mod Powers
pub mod Registered
