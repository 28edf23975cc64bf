pub mod Doubles
pub mod Fixed
pub mod Index
pub mod Limits
