pub mod Cashouts
pub mod Options
pub mod Rules
pub mod Splits
