pub mod BlankCell
pub mod Digits
pub mod Fitting
pub mod Texts
pub mod UsualFormat
pub mod Widths
