pub mod Monthly
pub mod Small
