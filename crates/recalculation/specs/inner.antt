-- How the code keeps its books; no definition beside this folder speaks of it.
pub mod Graphs
pub mod Laws
pub mod Leaving
pub mod Meanings
