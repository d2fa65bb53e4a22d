-- How the code keeps its books; no definition beside this folder speaks of it.
pub mod Held
pub mod Short
