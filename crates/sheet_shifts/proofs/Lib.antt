pub mod Apart
pub mod First
pub mod Listed
pub mod Sources
pub mod Maps
pub mod Rows
pub mod Standing
