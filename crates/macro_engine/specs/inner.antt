-- How the code keeps its books; no definition beside this folder speaks of it.
pub mod Carried
pub mod Outcomes
pub mod Settling
