pub mod Calls
pub mod Dues
pub mod Ledgers
