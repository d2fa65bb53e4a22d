mod Lining
mod Passing
mod Shown
