pub mod Numbers
pub mod Operators
pub mod Patterns
pub mod Scalars
pub mod Values
pub mod inner
