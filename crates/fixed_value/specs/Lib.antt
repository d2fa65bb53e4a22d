pub mod Decimals
pub mod Doubles
pub mod Numbers
pub mod Powers
pub mod Standing
pub mod Written
