pub mod Days
pub mod Refusals
