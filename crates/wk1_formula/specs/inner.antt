-- How the code keeps its books; no definition beside this folder speaks of it.
pub mod Gathered
pub mod Items
pub mod Steps
pub mod Turns
pub mod Views
