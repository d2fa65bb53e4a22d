pub mod Around
pub mod Found
pub mod Kept
pub mod Listed
pub mod Put
pub mod Registrations
pub mod Sizes
