pub mod Behind
pub mod Entered
pub mod First
pub mod Made
pub mod Turned
