pub mod Fronts
pub mod ScreenSending
pub mod LineBits
pub mod LineSending
pub mod LineSets
