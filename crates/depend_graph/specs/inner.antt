-- How the code keeps its books; no definition beside this folder speaks of it.
pub mod Backward
pub mod Banks
pub mod Listed
pub mod Lists
pub mod Marked
pub mod Readers
pub mod Slots
pub mod Spreads
pub mod Within
