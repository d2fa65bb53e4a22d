pub mod Columns
pub mod Laws
pub mod Refusals
pub mod Shifts
pub mod inner
