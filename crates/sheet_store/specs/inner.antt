-- How the code keeps its books; no definition beside this folder speaks of it.
pub mod Contents
pub mod Copies
pub mod Keeping
pub mod Kept
pub mod RowOrder
pub mod Scan
