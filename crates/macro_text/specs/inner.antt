-- How the code keeps its books; no definition beside this folder speaks of it.
pub mod Cells
pub mod Formulas
pub mod Separators
pub mod Words
