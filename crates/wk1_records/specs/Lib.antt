pub mod Answers
pub mod Bodies
pub mod Kinds
pub mod Meanings
pub mod Records
