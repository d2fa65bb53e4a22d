pub mod Blanks
pub mod Coming
pub mod Cuts
pub mod Nearing
pub mod Painted
pub mod Passing
pub mod Window
