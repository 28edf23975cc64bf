pub mod Limits
pub mod Meanings
pub mod Promises
pub mod Steps
pub mod Tallies
