pub mod Behind
pub mod Copies
pub mod Found
pub mod Grids
pub mod Held
pub mod HeldOrder
pub mod RowOrder
pub mod Scans
