pub mod OneSheet
mod Putting
