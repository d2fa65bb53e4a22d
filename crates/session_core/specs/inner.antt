-- How the code keeps its books; no definition beside this folder speaks of it.
pub mod Glances
pub mod Leading
pub mod LightTurns
pub mod Settling
pub mod Showing
pub mod Still
pub mod Touches
pub mod Typing
