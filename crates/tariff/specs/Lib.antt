pub mod Bills
pub mod Faults
pub mod Money
pub mod Months
