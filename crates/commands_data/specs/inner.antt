-- How the code keeps its books; no definition beside this folder speaks of it.
pub mod Benched
pub mod Held
pub mod Made
