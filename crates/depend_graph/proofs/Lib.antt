pub mod Few
pub mod Growth
pub mod Kept
pub mod Listing
pub mod Offers
pub mod Others
pub mod Placed
pub mod Readable
pub mod Searched
mod Viewed
pub mod Marked
pub mod Spreads
