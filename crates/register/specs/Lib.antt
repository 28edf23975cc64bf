pub mod Refusals
pub mod Registers
