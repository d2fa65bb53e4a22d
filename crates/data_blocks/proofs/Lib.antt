pub mod Halves
pub mod InOrder
pub mod Orders
pub mod Reached
pub mod Shares
pub mod Sorted
pub mod Scenarios
