pub mod Acting
pub mod Answered
pub mod Desks
pub mod Formats
pub mod OnDesk
pub mod Printing
pub mod Writing
