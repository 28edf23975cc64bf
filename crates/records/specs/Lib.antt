pub mod Accounts
pub mod Components
pub mod Numbered
pub mod Refusals
