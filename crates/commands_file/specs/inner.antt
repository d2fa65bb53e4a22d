-- How the code keeps its books; no definition beside this folder speaks of it.
pub mod Extracting
pub mod Placing
pub mod Using
