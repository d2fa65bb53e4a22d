pub mod Answered
pub mod Broken
pub mod Ended
pub mod Leaving
pub mod OneAnswer
pub mod Placing
pub mod Sound
