pub mod Points
pub mod Readings
