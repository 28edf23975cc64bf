pub mod Rounding
pub mod TwoDigits
